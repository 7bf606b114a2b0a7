use Rattle.std.proofs.Common.{◌≡◌, ◌-◌}
use Rattle.fr_record_log.specs.Reading.{bodies_at}
use Rattle.fr_record_log.proofs.Loops.{with_front}
use Rattle.fr_record_log.proofs.reading.bodies_of.Given as goal

-- what was read and what is still read are all that is read
abbrev pub invariant-loop : goal.invariant-loop
invariant-loop l = with_front l.bodies.items (bodies_at (l.count - l.counter) l.rest) ≡ bodies_at l.count l.initial.rest
