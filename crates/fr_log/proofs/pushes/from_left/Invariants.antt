use Rattle.std.proofs.Common.{◌≡◌, length}
use Rattle.fr_log.specs.Left.{left_bodies}
use Rattle.fr_log.proofs.pushes.from_left.Given as goal

-- what is left of the rest is all that is left
abbrev pub invariant-loop-rest : goal.invariant-loop-rest
invariant-loop-rest l = left_bodies l.popped l.version l.rest ≡ left_bodies l.popped l.version l.bodies

abbrev pub decreases-loop-rest : goal.decreases-loop-rest
decreases-loop-rest l = length l.rest
