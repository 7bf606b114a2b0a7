use Rattle.fr_register.specs.CellState.{fresh_cell}
use Rattle.fr_compact.proofs.CellBack.{read_back}
use Rattle.fr_compact.proofs.cell.CellCompact.leads_back.Goals as goal

pub returns : goal.returns
returns c s sound = read_back fresh_cell s sound
