use Rattle.fr_register.proofs.Answered.{cell_grows, cells_grow}
use Rattle.fr_register.proofs.Histories.{cells_hold_their_last, promises_are_kept}
use Rattle.fr_register.proofs.laws.cell_law.Goals as goal

pub returns : goal.returns
returns c = record {
  holds = cells_hold_their_last;
  keeps = promises_are_kept;
  grows = cell_grows;
  grow = cells_grow;
}
