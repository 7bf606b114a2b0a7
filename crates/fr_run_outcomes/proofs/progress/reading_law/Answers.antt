use Rattle.fr_run_outcomes.proofs.Reading.{reading_ends}
use Rattle.fr_run_outcomes.proofs.progress.reading_law.Goals as goal

pub returns : goal.returns
returns c = reading_ends c.node_laws.ensures c.lost_law.ensures.only
