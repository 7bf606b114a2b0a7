use Rattle.std.proofs.Common.{◌≡◌, map, take}
use Rattle.fr_epoch.specs.Recoverer.{mark_of}
use Rattle.fr_epoch.specs.Standing.{plan_in}
use Rattle.fr_epoch.specs.Lists.{mark_ask, others}
use Rattle.fr_epoch.proofs.asks.marks.Given as goal

-- the pushes to the first of these logs
abbrev pub invariant-loop-index : goal.invariant-loop-index
invariant-loop-index l = record {
  logs : l.index-items ≡ others l.draft.generation.m l.marked;
  asks : l.asks.items ≡ map (mark_ask l.epoch (mark_of (plan_in l.draft))) (take l.index-index l.index-items);
}
