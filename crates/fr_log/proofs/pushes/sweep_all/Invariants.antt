use Rattle.std.proofs.Common.{◌≡◌, ℕ, ◌<◌, ◌≤◌, length}
use Rattle.fr_log.specs.Left.{popped_at}
use Rattle.fr_log.specs.Pushes.{shelf_of, above}
use Rattle.fr_log.proofs.pushes.sweep_all.Given as goal

-- the shelves before this one are swept, and the others are as they were
abbrev pub invariant-loop-number : goal.invariant-loop-number
invariant-loop-number l = record {
  size : length l.shelves.items ≡ length l.initial.shelves.items;
  done : (t : ℕ) → t < l.number → shelf_of l.shelves.items t ≡ above (popped_at l.popped t) (shelf_of l.initial.shelves.items t);
  rest : (t : ℕ) → l.number ≤ t → shelf_of l.shelves.items t ≡ shelf_of l.initial.shelves.items t;
}
