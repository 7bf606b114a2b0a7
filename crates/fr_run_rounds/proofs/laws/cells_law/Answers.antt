use Rattle.fr_run_rounds.proofs.ReadRound.{reading_is_one_round}
use Rattle.fr_run_rounds.proofs.WriteRound.{writing_is_one_round}
use Rattle.fr_run_rounds.proofs.laws.cells_law.Goals as goal

pub returns : goal.returns
returns c = record {
  reading = reading_is_one_round c.node_laws.ensures c.cover_law.ensures.counted;
  writing = writing_is_one_round c.node_laws.ensures c.cover_law.ensures.counted;
}
