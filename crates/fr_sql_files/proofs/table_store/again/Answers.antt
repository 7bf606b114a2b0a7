use Rattle.fr_sql_files.proofs.LinkLemmas.{connected_from}
use Rattle.fr_sql_files.proofs.table_store.again.Goals as goal

pub returns-in-Ok : goal.returns-in-Ok
returns-in-Ok g c = record { connected = connected_from g.S.Store g.S.FileTables.KeptLeaves _ (g.S.FileTables.KeptLeaves c.in-Ok.kept) c.over.result c.in-Ok.ensures.parted.leaves c.over.ensures.connected }
