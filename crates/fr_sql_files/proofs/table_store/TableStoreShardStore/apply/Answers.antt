use Rattle.std.proofs.Common.{◌<◌, ◌≤◌, OnOk}
use Rattle.fr_undo.specs.declared.fault.StoreFault.TheVariants.{NotAfter}
use Rattle.fr_undo.specs.State.{StoreState}
use Rattle.fr_undo.specs.Undo.{extended}
use Rattle.fr_sql_files.proofs.LinkLemmas.{shut_writes, shut_told, shut_refuses, shown_open, refuses_open, writes_open, told_open}
use Rattle.fr_sql_files.proofs.table_store.TableStoreShardStore.apply.Goals as goal

pub returns-in-Open-clause-writes : goal.returns-in-Open-clause-writes
returns-in-Open-clause-writes g c = writes_open g.S.Store g.S.FileTables.KeptLeaves (λ x. extended x c.args.version c.args.batch.now) c.in-Open.store c.apply.new.self c.apply.result c.args.self.now c.in-Open.is c.apply.ensures.writes

pub returns-in-Open-clause-later : goal.returns-in-Open-clause-later
returns-in-Open-clause-later g c = shown_open g.S.Store g.S.FileTables.KeptLeaves (λ x. OnOk c.apply.result (x.applied < c.args.version)) c.in-Open.store c.args.self.now.link c.in-Open.is c.apply.ensures.later

pub returns-in-Open-clause-not_after : goal.returns-in-Open-clause-not_after
returns-in-Open-clause-not_after g c = refuses_open g.S.Store g.S.FileTables.KeptLeaves c.in-Open.store c.apply.result c.args.self.now.link NotAfter (λ (x : StoreState). c.args.version ≤ x.applied) c.in-Open.is c.apply.ensures.not_after

pub returns-in-Open-clause-told : goal.returns-in-Open-clause-told
returns-in-Open-clause-told g c = told_open g.S.Store g.S.FileTables.KeptLeaves c.in-Open.store c.apply.new.self c.apply.result c.args.self.now.link c.in-Open.is c.apply.ensures.told

pub returns-in-Shut-clause-writes : goal.returns-in-Shut-clause-writes
returns-in-Shut-clause-writes g c = shut_writes g.S.Store g.S.FileTables.KeptLeaves (λ x. extended x c.args.version c.args.batch.now) _ c.args.self.now c.in-Shut.is

pub returns-in-Shut-clause-not_after : goal.returns-in-Shut-clause-not_after
returns-in-Shut-clause-not_after g c = shut_refuses g.S.Store g.S.FileTables.KeptLeaves _ c.args.self.now.link NotAfter (λ (x : StoreState). c.args.version ≤ x.applied) (λ e. cc) c.in-Shut.is

pub returns-in-Shut-clause-told : goal.returns-in-Shut-clause-told
returns-in-Shut-clause-told g c = shut_told g.S.Store g.S.FileTables.KeptLeaves _ c.args.self.now.link c.in-Shut.is
