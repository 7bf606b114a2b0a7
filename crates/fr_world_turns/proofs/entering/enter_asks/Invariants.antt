use Rattle.std.proofs.Common.{take}
use Rattle.fr_world_turns.specs.Places.{Grows}
use Rattle.fr_world_turns.proofs.Founds.{SentAreFound}
use Rattle.fr_world_turns.proofs.entering.enter_asks.Given as goal

-- the asks so far are entered
abbrev pub invariant-loop-sent : goal.invariant-loop-sent
invariant-loop-sent l =
    record {
      grows : Grows l.fn.places l.places;
      found : SentAreFound l.turns l.places l.from (take l.sent-index l.asks);
    }
