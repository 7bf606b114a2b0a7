use Rattle.std.proofs.Common.{◌≡◌}
use Rattle.fr_record_log.specs.Spelled.{tagged}
use Rattle.fr_record_log.proofs.whole.bodies_at.Given as goal

-- the bodies of the tags so far are there
abbrev pub invariant-loop-number : goal.invariant-loop-number
invariant-loop-number l = l.bodies.items ≡ tagged l.number l.version l.log.pushes
