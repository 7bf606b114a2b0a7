use Rattle.fr_run_headline.proofs.Logs.{logs_are_own}
use Rattle.fr_run_headline.proofs.versions.logs_law.Goals as goal

pub returns : goal.returns
returns c = record { own = logs_are_own c.node_laws.ensures }
