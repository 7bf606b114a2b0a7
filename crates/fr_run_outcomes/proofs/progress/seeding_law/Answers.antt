use Rattle.fr_run_outcomes.proofs.Seeding.{seeding_ends}
use Rattle.fr_run_outcomes.proofs.progress.seeding_law.Goals as goal

pub returns : goal.returns
returns c = seeding_ends c.node_laws.ensures c.pending_law.ensures.sent
