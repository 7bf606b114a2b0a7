use Rattle.sqlite.specs.Files.{file_state, over_files}
use Rattle.fr_sql_store.specs.Tables.{state_of}
use Rattle.fr_sql_store.proofs.EmptyLemmas.{found_as, new_as}
use Rattle.fr_sql_store.proofs.sql_store.files.opening.SqlStore+FileStore+D.open_or_create.Goals as goal

pub returns-in-Ok-clause-found : goal.returns-in-Ok-clause-found
returns-in-Ok-clause-found g c = found_as g.D.Disk c.args.files c.in-Ok.conn (state_of over_files) c.recognized_or_made.result c.in-Ok.ensures.found c.recognized_or_made.ensures.state

pub returns-in-Ok-clause-made : goal.returns-in-Ok-clause-made
returns-in-Ok-clause-made g c = new_as g.D.Disk c.args.files c.in-Ok.conn (state_of over_files) c.recognized_or_made.result c.in-Ok.ensures.found c.recognized_or_made.ensures.state
