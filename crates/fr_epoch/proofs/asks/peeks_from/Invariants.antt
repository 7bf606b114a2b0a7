use Rattle.std.proofs.Common.{◌≡◌, map, take}
use Rattle.fr_epoch.specs.Lists.{peek_ask, holding}
use Rattle.fr_epoch.proofs.asks.peeks_from.Given as goal

-- the peeks at the first of these logs
abbrev pub invariant-loop-index : goal.invariant-loop-index
invariant-loop-index l = record {
  logs : l.index-items ≡ holding l.tail l.tag;
  asks : l.asks.items ≡ map (peek_ask l.epoch l.tag l.reached) (take l.index-index l.index-items);
}
