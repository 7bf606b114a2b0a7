use Rattle.fr_run_outcomes.proofs.Writing.{writing_ends}
use Rattle.fr_run_outcomes.proofs.progress.writing_law.Goals as goal

pub returns : goal.returns
returns c = writing_ends c.node_laws.ensures c.pending_law.ensures.sent c.lost_law.ensures.two c.cover_law.ensures.counted
