use Rattle.fr_sql_files.proofs.LinkLemmas.{found_again, lost_again}
use Rattle.fr_sql_files.proofs.table_store.opened_again.Goals as goal

pub returns-in-Ok : goal.returns-in-Ok
returns-in-Ok g c =
    let h = c.in-Ok.ensures.connected in
    record { reopened = found_again g.S.Store g.S.FileTables.KeptLeaves c.args.link c.in-Ok.store h.found h.works h.sound h.left_as_is }

pub returns-in-Err : goal.returns-in-Err
returns-in-Err g c =
    let h = c.in-Err.ensures.connected in
    record { reopened = lost_again g.S.Store g.S.FileTables.KeptLeaves c.args.link c.in-Err.shut c.in-Err.fault c.requires.failed h.still h.trouble }
