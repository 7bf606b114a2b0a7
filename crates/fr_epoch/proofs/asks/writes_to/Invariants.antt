use Rattle.std.proofs.Common.{◌≡◌, map, take}
use Rattle.fr_epoch.specs.Lists.{write_ask}
use Rattle.fr_epoch.proofs.asks.writes_to.Given as goal

-- the writes to the first of these cells
abbrev pub invariant-loop-index : goal.invariant-loop-index
invariant-loop-index l = l.asks.items ≡ map (write_ask l.ballot l.value) (take l.index-index l.cells)
