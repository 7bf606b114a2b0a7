use Rattle.std.proofs.Common.{◌≡◌, ℕ, List}
use Rattle.std.specs.Option.{option_or}
use Rattle.std.specs.VecDeque.Iter.{deque_iter_rest}
use Rattle.fr_undo.specs.Changes.{first_row}
use Rattle.fr_undo.specs.Plan.{IsPlan, planned}
use Rattle.fr_undo.proofs.unwind.plan_from.Given as goal

-- what is planned, and else the first rows of what is left, are the first rows of all
abbrev pub invariant-loop-row : goal.invariant-loop-row
invariant-loop-row l = record {
  can : (goal.iterator-loop-row).can_next l.row-iterator;
  ends : (goal.iterator-loop-row).is_finite l.row-iterator;
  plan : IsPlan l.plan;
  first : (q : List ℕ) → option_or (planned l.plan q) (first_row q (deque_iter_rest l.row-iterator)) ≡ first_row q (deque_iter_rest l.initial.row-iterator);
}
