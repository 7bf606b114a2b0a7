use Rattle.std.proofs.Common.{◌≡◌, map, take}
use Rattle.fr_runtime_station.proofs.epoch_nodes.all_to_come.Given as goal

-- those of the epochs so far
abbrev pub invariant-loop-epoch : goal.invariant-loop-epoch
invariant-loop-epoch g l = map (λ nodes. nodes.epoch) l.all.items ≡ take l.epoch-index l.epochs
