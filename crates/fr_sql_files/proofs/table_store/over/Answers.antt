use Rattle.fr_sql_store.specs.Tables.{StoreLeaves}
use Rattle.fr_sql_files.proofs.LinkLemmas.{connected_from}
use Rattle.fr_sql_files.proofs.table_store.over.Goals as goal

pub returns-in-Ok : goal.returns-in-Ok
returns-in-Ok g c = record { connected = connected_from g.S.Store g.S.FileTables.KeptLeaves _ (StoreLeaves g.S.Store c.in-Ok.tables) c.found_over.result c.in-Ok.ensures.leaves c.found_over.ensures.connected }

pub returns-in-Err : goal.returns-in-Err
returns-in-Err g c = record { connected = record { found = tt; works = tt; sound = tt; left_as_is = tt; still = c.in-Err.ensures.still; trouble = c.in-Err.ensures.trouble } }
