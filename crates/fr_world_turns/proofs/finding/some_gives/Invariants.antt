use Rattle.fr_run.specs.Tests as tests
use Rattle.fr_world_turns.specs.Turns.{turn_of}
use Rattle.fr_world_turns.proofs.Lists.{NoneFrom}
use Rattle.fr_world_turns.proofs.finding.some_gives.Given as goal

-- none of those that were looked at did
abbrev pub invariant-loop-place : goal.invariant-loop-place
invariant-loop-place l = NoneFrom (λ t. tests.gives l.from l.to l.ask (turn_of t)) l.turns l.place
