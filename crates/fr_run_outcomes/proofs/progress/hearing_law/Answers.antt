use Rattle.fr_run_outcomes.proofs.Hearing.{mark_is_heard}
use Rattle.fr_run_outcomes.proofs.progress.hearing_law.Goals as goal

pub returns : goal.returns
returns c = mark_is_heard c.node_laws.ensures c.told_law.ensures.marked c.follow_law.ensures.taken
