use Rattle.std.proofs.Common.{◌≡◌, map, take}
use Rattle.fr_epoch.specs.Lists.{seed_ask, others}
use Rattle.fr_epoch.proofs.asks.seeds.Given as goal

-- the seeds of the first of these logs
abbrev pub invariant-loop-index : goal.invariant-loop-index
invariant-loop-index l = record {
  logs : l.index-items ≡ others l.generation.m l.seeded;
  asks : l.asks.items ≡ map (seed_ask l.epoch l.tail l.generation.m l.generation.k) (take l.index-index l.index-items);
}
