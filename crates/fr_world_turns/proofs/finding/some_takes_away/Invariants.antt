use Rattle.std.proofs.Common.{◌≡◌, drop}
use Rattle.std.specs.List.{list_any}
use Rattle.fr_run.specs.Tests as tests
use Rattle.fr_world_turns.specs.Turns.{turn_of}
use Rattle.fr_world_turns.proofs.finding.some_takes_away.Given as goal

-- some turn took the node away where one of those that are left did
abbrev pub invariant-loop-turn : goal.invariant-loop-turn
invariant-loop-turn l = list_any (λ t. tests.goes l.node (turn_of t)) (drop l.turn-index l.turns) ≡ list_any (λ t. tests.goes l.node (turn_of t)) l.turns
