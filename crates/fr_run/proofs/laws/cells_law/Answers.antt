use Rattle.fr_run.proofs.Cells.{cells_have_history, cells_are_ordered, written_is_state, promises_tell}
use Rattle.fr_run.proofs.laws.cells_law.Goals as goal

pub returns : goal.returns
returns c =
    let laws = c.node_laws.ensures in
    record { history = cells_have_history; order = cells_are_ordered laws; written = written_is_state laws; promises = promises_tell laws }
