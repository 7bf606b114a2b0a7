use Rattle.std.proofs.Common.{◌≡◌, map, take}
use Rattle.fr_epoch.specs.Lists.{read_ask, unheard}
use Rattle.fr_epoch.proofs.asks.reads.Given as goal

-- the reads of the first of these cells
abbrev pub invariant-loop-index : goal.invariant-loop-index
invariant-loop-index l = record {
  cells : l.index-items ≡ unheard l.tally.poll;
  asks : l.asks.items ≡ map (read_ask l.ballot) (take l.index-index l.index-items);
}
