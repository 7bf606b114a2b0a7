use Rattle.fr_sql_store.proofs.RestartLemmas.{restarted}
use Rattle.fr_sql_store.proofs.restart.restart_law.Goals as goal

pub returns : goal.returns
returns g c = restarted g.D.Disk g.E.Disk
