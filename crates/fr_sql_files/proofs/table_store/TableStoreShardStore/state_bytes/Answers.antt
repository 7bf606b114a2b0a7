use Rattle.std.proofs.Common.{◌≡◌, IfOk}
use Rattle.fr_sql_files.proofs.LinkLemmas.{shut_reads, shut_told, reads_open, told_open, shown_open}
use Rattle.fr_sql_files.proofs.table_store.TableStoreShardStore.state_bytes.Goals as goal

pub returns-in-Open-clause-value : goal.returns-in-Open-clause-value
returns-in-Open-clause-value g c = shown_open g.S.Store g.S.FileTables.KeptLeaves (λ x. IfOk c.state_bytes.result (λ bytes. bytes ≡ x.bytes)) c.in-Open.store c.args.self.now.link c.in-Open.is c.state_bytes.ensures.value

pub returns-in-Open-clause-reads : goal.returns-in-Open-clause-reads
returns-in-Open-clause-reads g c = reads_open g.S.Store g.S.FileTables.KeptLeaves c.in-Open.store c.state_bytes.new.self c.state_bytes.result c.args.self.now c.in-Open.is c.state_bytes.ensures.reads

pub returns-in-Open-clause-told : goal.returns-in-Open-clause-told
returns-in-Open-clause-told g c = told_open g.S.Store g.S.FileTables.KeptLeaves c.in-Open.store c.state_bytes.new.self c.state_bytes.result c.args.self.now.link c.in-Open.is c.state_bytes.ensures.told

pub returns-in-Shut-clause-reads : goal.returns-in-Shut-clause-reads
returns-in-Shut-clause-reads g c = shut_reads g.S.Store g.S.FileTables.KeptLeaves _ c.args.self.now c.in-Shut.is

pub returns-in-Shut-clause-told : goal.returns-in-Shut-clause-told
returns-in-Shut-clause-told g c = shut_told g.S.Store g.S.FileTables.KeptLeaves _ c.args.self.now.link c.in-Shut.is
