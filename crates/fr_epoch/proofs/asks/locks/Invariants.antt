use Rattle.std.proofs.Common.{◌≡◌, map, take}
use Rattle.fr_epoch.specs.Lists.{lock_ask, unlocked}
use Rattle.fr_epoch.proofs.asks.locks.Given as goal

-- the locks of the first of these logs
abbrev pub invariant-loop-index : goal.invariant-loop-index
invariant-loop-index l = record {
  logs : l.index-items ≡ unlocked l.end;
  asks : l.asks.items ≡ map (lock_ask l.epoch) (take l.index-index l.index-items);
}
