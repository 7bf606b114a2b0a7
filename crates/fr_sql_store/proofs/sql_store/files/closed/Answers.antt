use Rattle.fr_sql_store.proofs.FileLemmas.{holds_store, clean_files}
use Rattle.fr_sql_store.proofs.sql_store.files.closed.Goals as goal

pub returns-in-Ok-clause-holds : goal.returns-in-Ok-clause-holds
returns-in-Ok-clause-holds g c =
    holds_store g.D.Disk c.in-Ok.files _ (c.in-Ok.ensures.copied (clean_files g.D.Disk g.met.D.FaithfulDisk.faithful c.in-Ok.files.log c.in-Ok.files.db)).seen.both
