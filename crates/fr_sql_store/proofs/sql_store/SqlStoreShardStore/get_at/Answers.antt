use Rattle.std.proofs.Common.{◌≡◌, IfOk, Err, refl, subst}
use Rattle.fr_undo.specs.declared.fault.StoreFault.TheVariants.{Failed, BelowFloor, AboveApplied}
use Rattle.fr_undo.specs.State.{StoreState}
use Rattle.fr_undo.specs.Undo.{value_undone}
use Rattle.fr_sql_store.specs.Tables.{Seen, state_of}
use Rattle.fr_sql_store.proofs.StoreLemmas.{Lawful, KeepsOf, keeps_from_reads, refused_read, reads_not}
use Rattle.fr_sql_store.proofs.ReadLemmas.{read_by, reads_by, shown_by}
use Rattle.fr_sql_store.proofs.sql_store.SqlStoreShardStore.get_at.Goals as goal

pub returns-then-self-clause-keeps : goal.returns-then-self-clause-keeps
returns-then-self-clause-keeps g c =
    let h = c.self.inside in
    let old : Seen _ = record { conn = h.conn; applied = h.marks.applied; floor = h.marks.floor; rows = h.marks.rows; failed = h.is_failed; told = h.told } in
    let law : Lawful g.S.Store = record { clean = g.met.S.Backing.clean; settled = g.met.S.Store.settled; stays = g.met.S.Store.stays } in
    subst (λ s. KeepsOf g.S.Store law s s (Err Failed)) c.self.view_is (keeps_from_reads g.S.Store law old old (Err Failed) (reads_not g.S.Store law old c.self.invariant c.if-self.true))

pub returns-then-lt-clause-keeps : goal.returns-then-lt-clause-keeps
returns-then-lt-clause-keeps g c =
    let h = c.self.inside in
    let old : Seen _ = record { conn = h.conn; applied = h.marks.applied; floor = h.marks.floor; rows = h.marks.rows; failed = h.is_failed; told = h.told } in
    let law : Lawful g.S.Store = record { clean = g.met.S.Backing.clean; settled = g.met.S.Store.settled; stays = g.met.S.Store.stays } in
    subst (λ s. KeepsOf g.S.Store law s s (Err BelowFloor)) c.self.view_is (refused_read g.S.Store law old BelowFloor c.self.invariant c.if-self.false refl (λ e. cc))

pub returns-then-gt-clause-keeps : goal.returns-then-gt-clause-keeps
returns-then-gt-clause-keeps g c =
    let h = c.self.inside in
    let old : Seen _ = record { conn = h.conn; applied = h.marks.applied; floor = h.marks.floor; rows = h.marks.rows; failed = h.is_failed; told = h.told } in
    let law : Lawful g.S.Store = record { clean = g.met.S.Backing.clean; settled = g.met.S.Store.settled; stays = g.met.S.Store.stays } in
    subst (λ s. KeepsOf g.S.Store law s s (Err AboveApplied)) c.self.view_is (refused_read g.S.Store law old AboveApplied c.self.invariant c.if-self.false refl (λ e. cc))

pub returns-clause-value : goal.returns-clause-value
returns-clause-value g c =
    let h = c.self.inside in
    let old : Seen _ = record { conn = h.conn; applied = h.marks.applied; floor = h.marks.floor; rows = h.marks.rows; failed = h.is_failed; told = h.told } in
    let law : Lawful g.S.Store = record { clean = g.met.S.Backing.clean; settled = g.met.S.Store.settled; stays = g.met.S.Store.stays } in
    subst (λ s. IfOk c.value_then-held.result (λ value. value ≡ value_undone (state_of g.S.Store s) c.args.version c.args.key.now)) c.self.view_is (shown_by g.S.Store law (λ (x : StoreState). IfOk c.value_then-held.result (λ value. value ≡ value_undone x c.args.version c.args.key.now)) old c.if-self.false c.value_then-held.ensures.value)

pub returns-clause-keeps : goal.returns-clause-keeps
returns-clause-keeps g c =
    let h = c.self.inside in
    let old : Seen _ = record { conn = h.conn; applied = h.marks.applied; floor = h.marks.floor; rows = h.marks.rows; failed = h.is_failed; told = h.told } in
    let law : Lawful g.S.Store = record { clean = g.met.S.Backing.clean; settled = g.met.S.Store.settled; stays = g.met.S.Store.stays } in
    let new : Seen _ = record old { conn = c.value_then-held.new.conn; failed = c.met_device-self-inside.result; told = c.value_then-held.new.told } in
    subst (λ s. KeepsOf g.S.Store law s new c.value_then-held.result) c.self.view_is (keeps_from_reads g.S.Store law old new c.value_then-held.result (reads_by g.S.Store law old c.value_then-held.new.conn c.value_then-held.new.told c.value_then-held.result c.met_device-self-inside.result c.met_device-self-inside.ensures c.self.invariant c.if-self.false c.value_then-held.ensures.looks))

pub invariant_of-self : goal.invariant_of-self
invariant_of-self g c =
    let h = c.self.inside in
    let old : Seen _ = record { conn = h.conn; applied = h.marks.applied; floor = h.marks.floor; rows = h.marks.rows; failed = h.is_failed; told = h.told } in
    let law : Lawful g.S.Store = record { clean = g.met.S.Backing.clean; settled = g.met.S.Store.settled; stays = g.met.S.Store.stays } in
    read_by g.S.Store law old c.value_then-held.new.conn c.value_then-held.new.told c.value_then-held.result c.met_device-self-inside.result c.met_device-self-inside.ensures c.self.invariant c.if-self.false c.value_then-held.ensures.looks
