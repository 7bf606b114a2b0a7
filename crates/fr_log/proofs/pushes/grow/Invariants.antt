use Rattle.std.proofs.Common.{◌≡◌, ℕ, ◌+◌, ◌-◌, length}
use Rattle.fr_log.specs.Pushes.{shelf_of}
use Rattle.fr_log.proofs.pushes.grow.Given as goal

-- each tag has what it had
abbrev pub invariant-loop-alloc : goal.invariant-loop-alloc
invariant-loop-alloc l = (t : ℕ) → shelf_of l.shelves.items t ≡ shelf_of l.initial.shelves.items t

abbrev pub decreases-loop-alloc : goal.decreases-loop-alloc
decreases-loop-alloc l = l.number + 1 - length l.shelves.items
