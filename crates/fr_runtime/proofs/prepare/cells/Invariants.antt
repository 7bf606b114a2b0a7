use Rattle.std.proofs.Common.{◌≡◌, length, map}
use Rattle.fr_runtime_station.specs.Named.{cells_named}
use Rattle.fr_runtime.proofs.prepare.cells.Given as goal

-- a cell for each number so far, in its place
abbrev pub invariant-loop-index : goal.invariant-loop-index
invariant-loop-index g l = record {
  number : length l.all.items ≡ l.index;
  named : map (λ cell. cell.place) l.all.items ≡ cells_named (length l.all.items);
}
