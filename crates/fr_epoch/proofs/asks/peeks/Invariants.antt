use Rattle.std.proofs.Common.{◌≡◌}
use Rattle.fr_epoch.specs.Lists.{peeks_below}
use Rattle.fr_epoch.proofs.asks.peeks.Given as goal

-- the peeks of the tags so far
abbrev pub invariant-loop-number : goal.invariant-loop-number
invariant-loop-number l = l.asks.items ≡ peeks_below l.epoch l.tail l.number
