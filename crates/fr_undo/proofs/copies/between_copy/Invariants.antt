use Rattle.std.proofs.Common.{◌≡◌, ◌++◌}
use Rattle.fr_undo.proofs.copies.between_copy.Given as goal

-- the copies so far and what is left are all
abbrev pub invariant-loop-key : goal.invariant-loop-key
invariant-loop-key l = record {
  can : (goal.iterator-loop-key).can_next l.key-iterator;
  ends : (goal.iterator-loop-key).is_finite l.key-iterator;
  rows : l.entries.items ++ l.key-iterator ≡ l.initial.key-iterator;
}
