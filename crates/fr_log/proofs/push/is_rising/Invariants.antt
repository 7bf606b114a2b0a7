use Rattle.std.proofs.Common.{◌≡◌, drop}
use Rattle.fr_tags.specs.Bodies.{is_rising_from}
use Rattle.fr_log.proofs.push.is_rising.Given as goal

-- the answer is that of the bodies that are left, from the last one's tag on
abbrev pub invariant-loop-body : goal.invariant-loop-body
invariant-loop-body l = is_rising_from l.least (drop l.body-index l.bodies) ≡ is_rising_from 0 l.bodies
