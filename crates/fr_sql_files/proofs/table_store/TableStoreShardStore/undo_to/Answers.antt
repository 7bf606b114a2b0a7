use Rattle.std.proofs.Common.{◌<◌, ◌≤◌, OnOk}
use Rattle.fr_undo.specs.declared.fault.StoreFault.TheVariants.{BelowFloor}
use Rattle.fr_undo.specs.State.{StoreState}
use Rattle.fr_undo.specs.Undo.{undone}
use Rattle.fr_sql_files.proofs.LinkLemmas.{shut_writes, shut_told, shut_refuses, shown_open, refuses_open, writes_open, told_open}
use Rattle.fr_sql_files.proofs.table_store.TableStoreShardStore.undo_to.Goals as goal

pub returns-in-Open-clause-writes : goal.returns-in-Open-clause-writes
returns-in-Open-clause-writes g c = writes_open g.S.Store g.S.FileTables.KeptLeaves (λ x. undone x c.args.version) c.in-Open.store c.undo_to.new.self c.undo_to.result c.args.self.now c.in-Open.is c.undo_to.ensures.writes

pub returns-in-Open-clause-within : goal.returns-in-Open-clause-within
returns-in-Open-clause-within g c = shown_open g.S.Store g.S.FileTables.KeptLeaves (λ x. OnOk c.undo_to.result (x.floor ≤ c.args.version)) c.in-Open.store c.args.self.now.link c.in-Open.is c.undo_to.ensures.within

pub returns-in-Open-clause-below_floor : goal.returns-in-Open-clause-below_floor
returns-in-Open-clause-below_floor g c = refuses_open g.S.Store g.S.FileTables.KeptLeaves c.in-Open.store c.undo_to.result c.args.self.now.link BelowFloor (λ (x : StoreState). c.args.version < x.floor) c.in-Open.is c.undo_to.ensures.below_floor

pub returns-in-Open-clause-told : goal.returns-in-Open-clause-told
returns-in-Open-clause-told g c = told_open g.S.Store g.S.FileTables.KeptLeaves c.in-Open.store c.undo_to.new.self c.undo_to.result c.args.self.now.link c.in-Open.is c.undo_to.ensures.told

pub returns-in-Shut-clause-writes : goal.returns-in-Shut-clause-writes
returns-in-Shut-clause-writes g c = shut_writes g.S.Store g.S.FileTables.KeptLeaves (λ x. undone x c.args.version) _ c.args.self.now c.in-Shut.is

pub returns-in-Shut-clause-below_floor : goal.returns-in-Shut-clause-below_floor
returns-in-Shut-clause-below_floor g c = shut_refuses g.S.Store g.S.FileTables.KeptLeaves _ c.args.self.now.link BelowFloor (λ (x : StoreState). c.args.version < x.floor) (λ e. cc) c.in-Shut.is

pub returns-in-Shut-clause-told : goal.returns-in-Shut-clause-told
returns-in-Shut-clause-told g c = shut_told g.S.Store g.S.FileTables.KeptLeaves _ c.args.self.now.link c.in-Shut.is
