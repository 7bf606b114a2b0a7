use Rattle.fr_sql_store.proofs.RestartLemmas.{found}
use Rattle.fr_sql_store.proofs.restart.found_law.Goals as goal

pub returns : goal.returns
returns g c = found g.D.Disk g.E.Disk
