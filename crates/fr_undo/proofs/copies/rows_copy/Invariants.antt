use Rattle.std.proofs.Common.{◌≡◌, ◌++◌}
use Rattle.std.specs.VecDeque.Iter.{deque_iter_rest}
use Rattle.fr_undo.proofs.copies.rows_copy.Given as goal

-- the copies so far and what is left are all
abbrev pub invariant-loop-row : goal.invariant-loop-row
invariant-loop-row l = record {
  can : (goal.iterator-loop-row).can_next l.row-iterator;
  ends : (goal.iterator-loop-row).is_finite l.row-iterator;
  rows : l.copy.items ++ deque_iter_rest l.row-iterator ≡ deque_iter_rest l.initial.row-iterator;
}
