use Rattle.fr_world_nodes.proofs.Lasts.{cell_read}
use Rattle.fr_world_nodes.proofs.nodes.Nodes.last_of_cell.Goals as goal

pub returns-in_ok-last-in-Some : goal.returns-in_ok-last-in-Some
returns-in_ok-last-in-Some c =
    let n = c.args.self.now in
    cell_read n.config n.turns.turns n.cells.items c.requires.cells_are c.args.index c.from.result c.in-Some.cell.now c.in_ok-last-in-Some.field-0 c.deref.result.now c.deref.ensures.value c.from.ensures
    c.in-Some.ensures.lookup.3.0 c.in-Some.ensures.lookup.1 c.in_ok-last-in-Some.ensures
