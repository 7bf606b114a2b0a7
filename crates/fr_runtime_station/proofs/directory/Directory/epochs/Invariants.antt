use Rattle.std.proofs.Common.{◌≡◌, Some}
use Rattle.std.specs.List.{slice_get}
use Rattle.fr_runtime_station.proofs.directory.Directory.epochs.Given as goal

-- that of the start stands first
abbrev pub invariant-loop-nodes : goal.invariant-loop-nodes
invariant-loop-nodes g l = slice_get l.all.items 0 ≡ Some l.self.first.chosen
