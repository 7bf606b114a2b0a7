use Rattle.std.proofs.Common.{◌≡◌, ◌<◌, ◌≤◌, IfOk, OnOk}
use Rattle.fr_undo.specs.declared.fault.StoreFault.TheVariants.{BelowFloor, AboveApplied}
use Rattle.fr_undo.specs.State.{StoreState}
use Rattle.fr_undo.specs.Undo.{value_undone}
use Rattle.fr_sql_files.proofs.LinkLemmas.{shut_keeps, shut_told, shut_refuses, shown_open, refuses_open, keeps_open, told_open}
use Rattle.fr_sql_files.proofs.table_store.TableStoreShardStore.get_at.Goals as goal

pub returns-in-Open-clause-value : goal.returns-in-Open-clause-value
returns-in-Open-clause-value g c = shown_open g.S.Store g.S.FileTables.KeptLeaves (λ x. IfOk c.get_at.result (λ value. value ≡ value_undone x c.args.version c.args.key.now)) c.in-Open.store c.args.self.now.link c.in-Open.is c.get_at.ensures.value

pub returns-in-Open-clause-within : goal.returns-in-Open-clause-within
returns-in-Open-clause-within g c = shown_open g.S.Store g.S.FileTables.KeptLeaves (λ x. OnOk c.get_at.result ((x.floor ≤ c.args.version) × (c.args.version ≤ x.applied))) c.in-Open.store c.args.self.now.link c.in-Open.is c.get_at.ensures.within

pub returns-in-Open-clause-below_floor : goal.returns-in-Open-clause-below_floor
returns-in-Open-clause-below_floor g c = refuses_open g.S.Store g.S.FileTables.KeptLeaves c.in-Open.store c.get_at.result c.args.self.now.link BelowFloor (λ (x : StoreState). c.args.version < x.floor) c.in-Open.is c.get_at.ensures.below_floor

pub returns-in-Open-clause-above_applied : goal.returns-in-Open-clause-above_applied
returns-in-Open-clause-above_applied g c = refuses_open g.S.Store g.S.FileTables.KeptLeaves c.in-Open.store c.get_at.result c.args.self.now.link AboveApplied (λ (x : StoreState). x.applied < c.args.version) c.in-Open.is c.get_at.ensures.above_applied

pub returns-in-Open-clause-keeps : goal.returns-in-Open-clause-keeps
returns-in-Open-clause-keeps g c = keeps_open g.S.Store g.S.FileTables.KeptLeaves c.in-Open.store c.get_at.new.self c.get_at.result c.args.self.now c.in-Open.is c.get_at.ensures.keeps

pub returns-in-Open-clause-told : goal.returns-in-Open-clause-told
returns-in-Open-clause-told g c = told_open g.S.Store g.S.FileTables.KeptLeaves c.in-Open.store c.get_at.new.self c.get_at.result c.args.self.now.link c.in-Open.is c.get_at.ensures.told

pub returns-in-Shut-clause-below_floor : goal.returns-in-Shut-clause-below_floor
returns-in-Shut-clause-below_floor g c = shut_refuses g.S.Store g.S.FileTables.KeptLeaves _ c.args.self.now.link BelowFloor (λ (x : StoreState). c.args.version < x.floor) (λ e. cc) c.in-Shut.is

pub returns-in-Shut-clause-above_applied : goal.returns-in-Shut-clause-above_applied
returns-in-Shut-clause-above_applied g c = shut_refuses g.S.Store g.S.FileTables.KeptLeaves _ c.args.self.now.link AboveApplied (λ (x : StoreState). x.applied < c.args.version) (λ e. cc) c.in-Shut.is

pub returns-in-Shut-clause-keeps : goal.returns-in-Shut-clause-keeps
returns-in-Shut-clause-keeps g c = shut_keeps g.S.Store g.S.FileTables.KeptLeaves _ c.args.self.now c.in-Shut.is

pub returns-in-Shut-clause-told : goal.returns-in-Shut-clause-told
returns-in-Shut-clause-told g c = shut_told g.S.Store g.S.FileTables.KeptLeaves _ c.args.self.now.link c.in-Shut.is
