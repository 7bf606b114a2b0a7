use Rattle.std.proofs.Common.{◌≡◌, IfOk}
use Rattle.std.specs.FinMap as map
use Rattle.fr_sql_files.proofs.LinkLemmas.{shut_reads, shut_told, reads_open, told_open, shown_open}
use Rattle.fr_sql_files.proofs.table_store.TableStoreShardStore.dump.Goals as goal

pub returns-in-Open-clause-rows : goal.returns-in-Open-clause-rows
returns-in-Open-clause-rows g c = shown_open g.S.Store g.S.FileTables.KeptLeaves (λ x. IfOk c.dump.result (λ rows. rows.items ≡ map.entries x.contents)) c.in-Open.store c.args.self.now.link c.in-Open.is c.dump.ensures.rows

pub returns-in-Open-clause-reads : goal.returns-in-Open-clause-reads
returns-in-Open-clause-reads g c = reads_open g.S.Store g.S.FileTables.KeptLeaves c.in-Open.store c.dump.new.self c.dump.result c.args.self.now c.in-Open.is c.dump.ensures.reads

pub returns-in-Open-clause-told : goal.returns-in-Open-clause-told
returns-in-Open-clause-told g c = told_open g.S.Store g.S.FileTables.KeptLeaves c.in-Open.store c.dump.new.self c.dump.result c.args.self.now.link c.in-Open.is c.dump.ensures.told

pub returns-in-Shut-clause-reads : goal.returns-in-Shut-clause-reads
returns-in-Shut-clause-reads g c = shut_reads g.S.Store g.S.FileTables.KeptLeaves _ c.args.self.now c.in-Shut.is

pub returns-in-Shut-clause-told : goal.returns-in-Shut-clause-told
returns-in-Shut-clause-told g c = shut_told g.S.Store g.S.FileTables.KeptLeaves _ c.args.self.now.link c.in-Shut.is
