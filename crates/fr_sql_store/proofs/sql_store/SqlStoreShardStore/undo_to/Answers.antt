use Rattle.std.proofs.Common.{◌≡◌, ◌≤◌, Ok, Err, refl, sym, subst, arith}
use Rattle.std.specs.Prelude.{min}
use Rattle.sqlite.specs.Held.{state}
use Rattle.fr_undo.specs.declared.fault.StoreFault.TheVariants.{Failed, BelowFloor}
use Rattle.fr_undo.specs.Undo.{undone}
use Rattle.fr_undo.proofs.StateLemmas.{undone_sound, undone_nothing}
use Rattle.std.proofs.lemmas.Map.Keys.{ge_from_not_lt}
use Rattle.fr_sql_store.specs.Tables.{Seen, state_of, state_in, applied_in}
use Rattle.fr_sql_store.proofs.OrderLemmas.{below_from_not_ge, ge_from_ge}
use Rattle.fr_sql_store.proofs.StoreLemmas.{Lawful, WritesOf, stands_of, writes_not, sound_of, applied_of, refused, idle, made_store, made_by, unmade_by}
use Rattle.fr_sql_store.proofs.sql_store.SqlStoreShardStore.undo_to.Goals as goal

pub returns-then-self-clause-writes : goal.returns-then-self-clause-writes
returns-then-self-clause-writes g c =
    let h = c.self.inside in
    let old : Seen _ = record { conn = h.conn; applied = h.marks.applied; floor = h.marks.floor; rows = h.marks.rows; failed = h.is_failed; told = h.told } in
    let law : Lawful g.S.Store = record { clean = g.met.S.Backing.clean; settled = g.met.S.Store.settled; stays = g.met.S.Store.stays } in
    subst (λ s. WritesOf g.S.Store law s s (undone (state_of g.S.Store s) c.args.version) (Err Failed)) c.self.view_is (writes_not g.S.Store law old _ c.self.invariant c.if-self.true)

pub returns-then-lt-clause-writes : goal.returns-then-lt-clause-writes
returns-then-lt-clause-writes g c =
    let h = c.self.inside in
    let old : Seen _ = record { conn = h.conn; applied = h.marks.applied; floor = h.marks.floor; rows = h.marks.rows; failed = h.is_failed; told = h.told } in
    let law : Lawful g.S.Store = record { clean = g.met.S.Backing.clean; settled = g.met.S.Store.settled; stays = g.met.S.Store.stays } in
    subst (λ s. WritesOf g.S.Store law s s (undone (state_of g.S.Store s) c.args.version) (Err BelowFloor)) c.self.view_is (refused g.S.Store law old _ BelowFloor c.self.invariant c.if-self.false refl (λ e. cc))

pub returns-then-ge-clause-writes : goal.returns-then-ge-clause-writes
returns-then-ge-clause-writes g c =
    let h = c.self.inside in
    let old : Seen _ = record { conn = h.conn; applied = h.marks.applied; floor = h.marks.floor; rows = h.marks.rows; failed = h.is_failed; told = h.told } in
    let law : Lawful g.S.Store = record { clean = g.met.S.Backing.clean; settled = g.met.S.Store.settled; stays = g.met.S.Store.stays } in
    subst (λ s. WritesOf g.S.Store law s s (undone (state_of g.S.Store s) c.args.version) (Ok tt)) c.self.view_is (idle g.S.Store law old _ c.self.invariant c.if-self.false (undone_nothing (state_of g.S.Store old) c.args.version (sound_of g.S.Store law old c.self.invariant) (subst (λ n. n ≤ c.args.version) (sym (applied_of g.S.Store law old c.self.invariant)) (ge_from_ge c.args.version h.marks.applied (cc (c.ge.ensures, c.if-ge.true))))))

pub invariant_of-self : goal.invariant_of-self
invariant_of-self g c =
    let h = c.self.inside in
    let old : Seen _ = record { conn = h.conn; applied = h.marks.applied; floor = h.marks.floor; rows = h.marks.rows; failed = h.is_failed; told = h.told } in
    let law : Lawful g.S.Store = record { clean = g.met.S.Backing.clean; settled = g.met.S.Store.settled; stays = g.met.S.Store.stays } in
    let s = stands_of g.S.Store law old c.self.invariant c.if-self.false in
    let at = state g.S.Store h.conn in
    let new : Seen _ = record { conn = c.undo_to.new.conn; applied = c.args.version; floor = h.marks.floor; rows = c.in-Ok.rows; failed = h.is_failed; told = c.undo_to.new.told } in
    let sound = undone_sound (state_in at.now.trees) c.args.version s.sound (subst (λ n. n ≤ c.args.version) (sym s.floor_is) (ge_from_not_lt c.args.version h.marks.floor (cc (c.lt.ensures, c.if-lt.false)))) in
    let lt = below_from_not_ge c.args.version h.marks.applied (cc (c.ge.ensures, c.if-ge.false)) in
    let least : c.args.version ≡ min (applied_in (at.now.trees 4)) c.args.version = omega (arith, lt, s.applied_is) in
    let is = made_store g.S.Store law old new (undone (state_in at.now.trees) c.args.version) c.in-Ok.rows c.in-Ok.ensures.makes sound least (sym s.floor_is) refl in
    is

pub returns-in-Ok-clause-writes : goal.returns-in-Ok-clause-writes
returns-in-Ok-clause-writes g c =
    let h = c.self.inside in
    let old : Seen _ = record { conn = h.conn; applied = h.marks.applied; floor = h.marks.floor; rows = h.marks.rows; failed = h.is_failed; told = h.told } in
    let law : Lawful g.S.Store = record { clean = g.met.S.Backing.clean; settled = g.met.S.Store.settled; stays = g.met.S.Store.stays } in
    let s = stands_of g.S.Store law old c.self.invariant c.if-self.false in
    let at = state g.S.Store h.conn in
    let new : Seen _ = record { conn = c.undo_to.new.conn; applied = c.args.version; floor = h.marks.floor; rows = c.in-Ok.rows; failed = h.is_failed; told = c.undo_to.new.told } in
    let sound = undone_sound (state_in at.now.trees) c.args.version s.sound (subst (λ n. n ≤ c.args.version) (sym s.floor_is) (ge_from_not_lt c.args.version h.marks.floor (cc (c.lt.ensures, c.if-lt.false)))) in
    let lt = below_from_not_ge c.args.version h.marks.applied (cc (c.ge.ensures, c.if-ge.false)) in
    let least : c.args.version ≡ min (applied_in (at.now.trees 4)) c.args.version = omega (arith, lt, s.applied_is) in
    let is = made_store g.S.Store law old new (undone (state_in at.now.trees) c.args.version) c.in-Ok.rows c.in-Ok.ensures.makes sound least (sym s.floor_is) refl in
    subst (λ s. WritesOf g.S.Store law s new (undone (state_of g.S.Store s) c.args.version) (Ok tt)) c.self.view_is (made_by g.S.Store law (λ x. undone x c.args.version) old new c.in-Ok.rows is c.if-self.false c.if-self.false c.in-Ok.ensures.makes)

pub returns-in-Err-clause-writes : goal.returns-in-Err-clause-writes
returns-in-Err-clause-writes g c =
    let h = c.self.inside in
    let old : Seen _ = record { conn = h.conn; applied = h.marks.applied; floor = h.marks.floor; rows = h.marks.rows; failed = h.is_failed; told = h.told } in
    let law : Lawful g.S.Store = record { clean = g.met.S.Backing.clean; settled = g.met.S.Store.settled; stays = g.met.S.Store.stays } in
    subst (λ s. WritesOf g.S.Store law s (record old { conn = c.undo_to.new.conn; failed = c.is_device-self-inside.result; told = c.undo_to.new.told }) (undone (state_of g.S.Store s) c.args.version) (Err c.in-Err.fault)) c.self.view_is (unmade_by g.S.Store law (λ x. undone x c.args.version) old c.undo_to.new.conn c.undo_to.new.told c.in-Err.fault c.is_device-self-inside.result c.is_device-self-inside.ensures c.self.invariant c.if-self.false c.in-Err.ensures.makes)
