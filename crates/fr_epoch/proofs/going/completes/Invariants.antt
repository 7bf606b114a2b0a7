use Rattle.std.proofs.Common.{◌≡◌, ℕ, ◌<◌}
use Rattle.fr_epoch.specs.Going.{reached_with}
use Rattle.fr_epoch.proofs.going.completes.Given as goal

-- the tags so far are complete
abbrev pub invariant-loop-number : goal.invariant-loop-number
invariant-loop-number l = (t : ℕ) → t < l.number → reached_with l.tail l.index l.peeked t ≡ l.tail.rv
