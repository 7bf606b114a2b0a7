use Rattle.std.proofs.Common.{◌≡◌, drop}
use Rattle.std.specs.List.{list_any}
use Rattle.fr_run.specs.Tests as tests
use Rattle.fr_world_turns.proofs.turn.is_among.Given as goal

-- an ask is among all of them where it is among those that are left
abbrev pub invariant-loop-sent : goal.invariant-loop-sent
invariant-loop-sent l = list_any (tests.is_sending l.to l.ask) (drop l.sent-index l.asks) ≡ list_any (tests.is_sending l.to l.ask) l.asks
