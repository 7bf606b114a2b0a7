use Rattle.std.proofs.Common.{◌≡◌, take}
use Rattle.fr_compact.specs.Room.{spare_all}
use Rattle.fr_compact.proofs.compact_node.serving.spare_of.Given as goal

-- so far it is the most of the first asks
abbrev pub invariant-loop-ask : goal.invariant-loop-ask
invariant-loop-ask g l = l.most ≡ spare_all g.M.Compact.spare (take l.ask-index l.asks)
