use Rattle.fr_sql_files.proofs.LinkLemmas.{failed_open, left_open, failed_shut, left_shut}
use Rattle.fr_sql_files.proofs.table_store.TableStoreShardStore.is_failed.Goals as goal

pub returns-in-Open-clause-answer : goal.returns-in-Open-clause-answer
returns-in-Open-clause-answer g c = failed_open g.S.Store g.S.FileTables.KeptLeaves c.in-Open.store c.is_failed.result c.args.self.now.link c.in-Open.is c.is_failed.ensures.answer

pub returns-in-Open-clause-left_as_is : goal.returns-in-Open-clause-left_as_is
returns-in-Open-clause-left_as_is g c = left_open g.S.Store g.S.FileTables.KeptLeaves c.in-Open.store c.args.self.now.link c.in-Open.is c.is_failed.ensures.left_as_is

pub returns-in-Shut-clause-answer : goal.returns-in-Shut-clause-answer
returns-in-Shut-clause-answer g c = failed_shut g.S.Store g.S.FileTables.KeptLeaves _ c.args.self.now.link c.in-Shut.is

pub returns-in-Shut-clause-left_as_is : goal.returns-in-Shut-clause-left_as_is
returns-in-Shut-clause-left_as_is g c = left_shut g.S.Store g.S.FileTables.KeptLeaves _ c.args.self.now.link c.in-Shut.is
