use Rattle.std.proofs.Common.{◌≤◌}
use Rattle.fr_runtime_station.proofs.directory.Directory.newest.Given as goal

-- the epoch so far is not below that of the start
abbrev pub invariant-loop-nodes : goal.invariant-loop-nodes
invariant-loop-nodes g l = l.self.first.chosen.generation.epoch ≤ l.newest.generation.epoch
