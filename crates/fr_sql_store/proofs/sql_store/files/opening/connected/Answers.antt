use Rattle.fr_sql_rows.specs.Backing.{files_are_clean}
use Rattle.fr_sql_store.proofs.sql_store.files.opening.connected.Goals as goal

pub returns-in-Ok-clause-opened : goal.returns-in-Ok-clause-opened
returns-in-Ok-clause-opened g c = c.in-Ok.ensures.opened (files_are_clean g.met.D.FaithfulDisk.faithful c.in-Ok.conn.store)

pub returns-in-Ok-clause-found : goal.returns-in-Ok-clause-found
returns-in-Ok-clause-found g c = c.in-Ok.ensures.found (files_are_clean g.met.D.FaithfulDisk.faithful c.in-Ok.conn.store)
