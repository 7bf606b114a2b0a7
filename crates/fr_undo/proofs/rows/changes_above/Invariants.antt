use Rattle.std.proofs.Common.{◌≡◌, ℕ, List}
use Rattle.std.specs.Option.{option_or}
use Rattle.fr_undo.specs.Changes.{first_row}
use Rattle.fr_undo.specs.Plan.{IsPlan, planned}
use Rattle.fr_undo.proofs.rows.changes_above.Given as goal

-- what is planned, and else the first rows of what is left, are the first rows of all
abbrev pub invariant-loop-key : goal.invariant-loop-key
invariant-loop-key l = record {
  can : (goal.iterator-loop-key).can_next l.key-iterator;
  ends : (goal.iterator-loop-key).is_finite l.key-iterator;
  plan : IsPlan l.plan;
  first : (q : List ℕ) → option_or (planned l.plan q) (first_row q l.key-iterator) ≡ first_row q l.initial.key-iterator;
}
