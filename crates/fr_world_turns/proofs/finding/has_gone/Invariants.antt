use Rattle.std.proofs.Common.{◌≡◌, drop}
use Rattle.std.specs.List.{list_any}
use Rattle.fr_run.specs.Tests as tests
use Rattle.fr_world_turns.specs.Finding.{at_place}
use Rattle.fr_world_turns.proofs.finding.has_gone.Given as goal

-- some place has such a turn where one of those that are left does
abbrev pub invariant-loop-place : goal.invariant-loop-place
invariant-loop-place l = list_any (at_place l.turns (tests.goes l.node)) (drop l.place-index l.found) ≡ list_any (at_place l.turns (tests.goes l.node)) l.found
