use Rattle.fr_run_outcomes.proofs.Uncontested.{uncontested_has_no_room}
use Rattle.fr_run_outcomes.proofs.progress.uncontested_law.Goals as goal

pub returns : goal.returns
returns c = uncontested_has_no_room c.node_laws.ensures c.ask_law.ensures.accounted c.lost_law.ensures.two c.lost_law.ensures.only
