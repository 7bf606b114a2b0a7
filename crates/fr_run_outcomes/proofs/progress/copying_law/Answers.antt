use Rattle.fr_run_outcomes.proofs.Copying.{copying_ends}
use Rattle.fr_run_outcomes.proofs.progress.copying_law.Goals as goal

pub returns : goal.returns
returns c = copying_ends c.node_laws.ensures c.pending_law.ensures.sent c.contents_law.ensures.copies c.let_go_law.ensures.copies
