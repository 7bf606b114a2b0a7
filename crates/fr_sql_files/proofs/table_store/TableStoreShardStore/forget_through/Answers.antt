use Rattle.std.proofs.Common.{◌≡◌, ◌<◌, ◌≤◌, OnOk}
use Rattle.fr_undo.specs.declared.fault.StoreFault.TheVariants.{AboveApplied}
use Rattle.fr_undo.specs.State.{StoreState}
use Rattle.fr_undo.specs.Undo.{forgotten}
use Rattle.fr_sql_store.specs.Tables as tables
use Rattle.fr_sql_files.proofs.LinkLemmas.{shut_writes, shut_told, shut_refuses, shown_open, refuses_open, writes_open, told_open}
use Rattle.fr_sql_files.proofs.table_store.TableStoreShardStore.forget_through.Goals as goal

pub returns-in-Open-clause-writes : goal.returns-in-Open-clause-writes
returns-in-Open-clause-writes g c = writes_open g.S.Store g.S.FileTables.KeptLeaves (λ x. forgotten x c.args.version) c.in-Open.store c.forget_through.new.self c.forget_through.result c.args.self.now c.in-Open.is c.forget_through.ensures.writes

pub returns-in-Open-clause-idle : goal.returns-in-Open-clause-idle
returns-in-Open-clause-idle g c = shown_open g.S.Store g.S.FileTables.KeptLeaves (λ x. OnOk c.forget_through.result (c.args.version ≤ x.floor → tables.state_of g.S.Store c.forget_through.new.self ≡ x)) c.in-Open.store c.args.self.now.link c.in-Open.is c.forget_through.ensures.idle

pub returns-in-Open-clause-within : goal.returns-in-Open-clause-within
returns-in-Open-clause-within g c = shown_open g.S.Store g.S.FileTables.KeptLeaves (λ x. OnOk c.forget_through.result (c.args.version ≤ x.applied)) c.in-Open.store c.args.self.now.link c.in-Open.is c.forget_through.ensures.within

pub returns-in-Open-clause-above_applied : goal.returns-in-Open-clause-above_applied
returns-in-Open-clause-above_applied g c = refuses_open g.S.Store g.S.FileTables.KeptLeaves c.in-Open.store c.forget_through.result c.args.self.now.link AboveApplied (λ (x : StoreState). x.applied < c.args.version) c.in-Open.is c.forget_through.ensures.above_applied

pub returns-in-Open-clause-told : goal.returns-in-Open-clause-told
returns-in-Open-clause-told g c = told_open g.S.Store g.S.FileTables.KeptLeaves c.in-Open.store c.forget_through.new.self c.forget_through.result c.args.self.now.link c.in-Open.is c.forget_through.ensures.told

pub returns-in-Shut-clause-writes : goal.returns-in-Shut-clause-writes
returns-in-Shut-clause-writes g c = shut_writes g.S.Store g.S.FileTables.KeptLeaves (λ x. forgotten x c.args.version) _ c.args.self.now c.in-Shut.is

pub returns-in-Shut-clause-above_applied : goal.returns-in-Shut-clause-above_applied
returns-in-Shut-clause-above_applied g c = shut_refuses g.S.Store g.S.FileTables.KeptLeaves _ c.args.self.now.link AboveApplied (λ (x : StoreState). x.applied < c.args.version) (λ e. cc) c.in-Shut.is

pub returns-in-Shut-clause-told : goal.returns-in-Shut-clause-told
returns-in-Shut-clause-told g c = shut_told g.S.Store g.S.FileTables.KeptLeaves _ c.args.self.now.link c.in-Shut.is
