use Rattle.std.proofs.Common.{Ok, Err, sym, subst, ◌∙◌}
use Rattle.sqlite.specs.Held.{state}
use Rattle.fr_undo.specs.declared.fault.StoreFault.TheVariants.{Failed}
use Rattle.fr_undo.specs.State.{IsStoreState}
use Rattle.fr_undo.specs.Undo.{with_bytes}
use Rattle.fr_sql_store.specs.Tables.{Seen, state_of, state_in}
use Rattle.fr_sql_store.proofs.StoreLemmas.{Lawful, WritesOf, stands_of, writes_not, made_store, made_by, unmade_by}
use Rattle.fr_sql_store.proofs.sql_store.SqlStoreShardStore.set_state.Goals as goal

pub returns-then-self-clause-writes : goal.returns-then-self-clause-writes
returns-then-self-clause-writes g c =
    let h = c.self.inside in
    let old : Seen _ = record { conn = h.conn; applied = h.marks.applied; floor = h.marks.floor; rows = h.marks.rows; failed = h.is_failed; told = h.told } in
    let law : Lawful g.S.Store = record { clean = g.met.S.Backing.clean; settled = g.met.S.Store.settled; stays = g.met.S.Store.stays } in
    subst (λ s. WritesOf g.S.Store law s s (with_bytes (state_of g.S.Store s) c.args.bytes) (Err Failed)) c.self.view_is (writes_not g.S.Store law old _ c.self.invariant c.if-self.true)

pub returns-in-Ok-clause-writes : goal.returns-in-Ok-clause-writes
returns-in-Ok-clause-writes g c =
    let h = c.self.inside in
    let old : Seen _ = record { conn = h.conn; applied = h.marks.applied; floor = h.marks.floor; rows = h.marks.rows; failed = h.is_failed; told = h.told } in
    let law : Lawful g.S.Store = record { clean = g.met.S.Backing.clean; settled = g.met.S.Store.settled; stays = g.met.S.Store.stays } in
    let s = stands_of g.S.Store law old c.self.invariant c.if-self.false in
    let at = state g.S.Store h.conn in
    let new : Seen _ = record { conn = c.set_state.new.conn; applied = h.marks.applied; floor = h.marks.floor; rows = h.marks.rows; failed = h.is_failed; told = c.set_state.new.told } in
    let sound : IsStoreState (with_bytes (state_in at.now.trees) c.args.bytes) = record { floor = s.sound.floor; above = s.sound.above; upto = s.sound.upto } in
    let is = made_store g.S.Store law old new (with_bytes (state_in at.now.trees) c.args.bytes) c.in-Ok.field-0 c.in-Ok.ensures.makes sound (sym s.applied_is) (sym s.floor_is) (s.count ∙ sym c.in-Ok.ensures.makes.count) in
    subst (λ s. WritesOf g.S.Store law s new (with_bytes (state_of g.S.Store s) c.args.bytes) (Ok tt)) c.self.view_is (made_by g.S.Store law (λ x. with_bytes x c.args.bytes) old new c.in-Ok.field-0 is c.if-self.false c.if-self.false c.in-Ok.ensures.makes)

pub returns-in-Err-clause-writes : goal.returns-in-Err-clause-writes
returns-in-Err-clause-writes g c =
    let h = c.self.inside in
    let old : Seen _ = record { conn = h.conn; applied = h.marks.applied; floor = h.marks.floor; rows = h.marks.rows; failed = h.is_failed; told = h.told } in
    let law : Lawful g.S.Store = record { clean = g.met.S.Backing.clean; settled = g.met.S.Store.settled; stays = g.met.S.Store.stays } in
    subst (λ s. WritesOf g.S.Store law s (record old { conn = c.set_state.new.conn; failed = c.is_device-self-inside.result; told = c.set_state.new.told }) (with_bytes (state_of g.S.Store s) c.args.bytes) (Err c.in-Err.fault)) c.self.view_is (unmade_by g.S.Store law (λ x. with_bytes x c.args.bytes) old c.set_state.new.conn c.set_state.new.told c.in-Err.fault c.is_device-self-inside.result c.is_device-self-inside.ensures c.self.invariant c.if-self.false c.in-Err.ensures.makes)
