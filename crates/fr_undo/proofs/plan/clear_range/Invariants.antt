use Rattle.std.proofs.Common.{◌≡◌, ℕ, List, Some, None, cond}
use Rattle.std.specs.Option.{option_or}
use Rattle.std.specs.List.{list_any}
use Rattle.fr_undo.specs.Changes.{is_key_of}
use Rattle.fr_undo.specs.Plan.{IsPlan, planned}
use Rattle.fr_undo.proofs.plan.clear_range.Given as goal

-- the keys planned and those that are left are those of the range
abbrev pub invariant-loop-key : goal.invariant-loop-key
invariant-loop-key l = record {
  can : (goal.iterator-loop-key).can_next l.key-iterator;
  ends : (goal.iterator-loop-key).is_finite l.key-iterator;
  plan : IsPlan l.plan;
  planned : (q : List ℕ) → option_or (planned l.plan q) (cond (list_any (is_key_of q) l.key-iterator) (Some None) None)
      ≡ option_or (planned l.initial.plan q) (cond (list_any (is_key_of q) l.initial.key-iterator) (Some None) None);
}
