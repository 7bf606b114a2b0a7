use Rattle.fr_world_nodes.proofs.Starts.{FirstCells}
use Rattle.fr_world_nodes.proofs.start.cells.Given as goal

-- so many cells were made
abbrev pub invariant-loop : goal.invariant-loop
invariant-loop l = FirstCells l.config l.counter l.cells.items
