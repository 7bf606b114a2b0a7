use Rattle.std.proofs.Common.{◌≡◌, length}
use Rattle.std.specs.Prelude.{filter}
use Rattle.fr_log.specs.Left.{is_left}
use Rattle.fr_log.proofs.popped.from_left.Given as goal

-- what is left of the rest is all that is left
abbrev pub invariant-loop-rest : goal.invariant-loop-rest
invariant-loop-rest l = filter (is_left l.popped) l.rest ≡ filter (is_left l.popped) l.records

abbrev pub decreases-loop-rest : goal.decreases-loop-rest
decreases-loop-rest l = length l.rest
