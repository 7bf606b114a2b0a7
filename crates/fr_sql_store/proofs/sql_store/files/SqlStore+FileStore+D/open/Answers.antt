use Rattle.sqlite.specs.Files.{file_state, over_files}
use Rattle.fr_sql_store.specs.Tables.{state_of}
use Rattle.fr_sql_store.proofs.FileLemmas.{found_state}
use Rattle.fr_sql_store.proofs.sql_store.files.SqlStore+FileStore+D.open.Goals as goal

pub returns-clause-found : goal.returns-clause-found
returns-clause-found g c = found_state g.D.Disk c.args.files (file_state c.in_ok-opened.field-0).committed.trees (state_of over_files) c.read.result c.in_ok-opened.ensures.found.holds c.read.ensures.state
