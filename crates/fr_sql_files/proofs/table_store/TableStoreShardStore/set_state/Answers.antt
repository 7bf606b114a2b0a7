use Rattle.fr_undo.specs.Undo.{with_bytes}
use Rattle.fr_sql_files.proofs.LinkLemmas.{shut_writes, shut_told, writes_open, told_open}
use Rattle.fr_sql_files.proofs.table_store.TableStoreShardStore.set_state.Goals as goal

pub returns-in-Open-clause-writes : goal.returns-in-Open-clause-writes
returns-in-Open-clause-writes g c = writes_open g.S.Store g.S.FileTables.KeptLeaves (λ x. with_bytes x c.args.bytes) c.in-Open.store c.set_state.new.self c.set_state.result c.args.self.now c.in-Open.is c.set_state.ensures.writes

pub returns-in-Open-clause-told : goal.returns-in-Open-clause-told
returns-in-Open-clause-told g c = told_open g.S.Store g.S.FileTables.KeptLeaves c.in-Open.store c.set_state.new.self c.set_state.result c.args.self.now.link c.in-Open.is c.set_state.ensures.told

pub returns-in-Shut-clause-writes : goal.returns-in-Shut-clause-writes
returns-in-Shut-clause-writes g c = shut_writes g.S.Store g.S.FileTables.KeptLeaves (λ x. with_bytes x c.args.bytes) _ c.args.self.now c.in-Shut.is

pub returns-in-Shut-clause-told : goal.returns-in-Shut-clause-told
returns-in-Shut-clause-told g c = shut_told g.S.Store g.S.FileTables.KeptLeaves _ c.args.self.now.link c.in-Shut.is
