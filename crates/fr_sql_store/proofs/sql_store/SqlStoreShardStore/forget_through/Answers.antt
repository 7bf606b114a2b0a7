use Rattle.std.proofs.Common.{◌≡◌, ◌≤◌, Ok, Err, refl, sym, subst, arith}
use Rattle.std.specs.Prelude.{max}
use Rattle.std.proofs.lemmas.Map.Keys.{le_from_not_gt}
use Rattle.sqlite.specs.Held.{state}
use Rattle.fr_undo.specs.declared.fault.StoreFault.TheVariants.{Failed, AboveApplied}
use Rattle.fr_undo.specs.Undo.{forgotten}
use Rattle.fr_undo.proofs.StateLemmas.{forgotten_sound, forgotten_nothing}
use Rattle.fr_sql_store.specs.Tables.{Seen, state_of, state_in, floor_in}
use Rattle.fr_undo.proofs.RowLemmas.{above_from_not_le}
use Rattle.fr_sql_store.proofs.OrderLemmas.{le_from_le}
use Rattle.fr_sql_store.proofs.StoreLemmas.{Lawful, WritesOf, stands_of, writes_not, sound_of, floor_of, refused, idle, made_store, made_by, unmade_by}
use Rattle.fr_sql_store.proofs.sql_store.SqlStoreShardStore.forget_through.Goals as goal

pub returns-then-self-clause-writes : goal.returns-then-self-clause-writes
returns-then-self-clause-writes g c =
    let h = c.self.inside in
    let old : Seen _ = record { conn = h.conn; applied = h.marks.applied; floor = h.marks.floor; rows = h.marks.rows; failed = h.is_failed; told = h.told } in
    let law : Lawful g.S.Store = record { clean = g.met.S.Backing.clean; settled = g.met.S.Store.settled; stays = g.met.S.Store.stays } in
    subst (λ s. WritesOf g.S.Store law s s (forgotten (state_of g.S.Store s) c.args.version) (Err Failed)) c.self.view_is (writes_not g.S.Store law old _ c.self.invariant c.if-self.true)

pub returns-then-gt-clause-writes : goal.returns-then-gt-clause-writes
returns-then-gt-clause-writes g c =
    let h = c.self.inside in
    let old : Seen _ = record { conn = h.conn; applied = h.marks.applied; floor = h.marks.floor; rows = h.marks.rows; failed = h.is_failed; told = h.told } in
    let law : Lawful g.S.Store = record { clean = g.met.S.Backing.clean; settled = g.met.S.Store.settled; stays = g.met.S.Store.stays } in
    subst (λ s. WritesOf g.S.Store law s s (forgotten (state_of g.S.Store s) c.args.version) (Err AboveApplied)) c.self.view_is (refused g.S.Store law old _ AboveApplied c.self.invariant c.if-self.false refl (λ e. cc))

pub returns-then-le-clause-writes : goal.returns-then-le-clause-writes
returns-then-le-clause-writes g c =
    let h = c.self.inside in
    let old : Seen _ = record { conn = h.conn; applied = h.marks.applied; floor = h.marks.floor; rows = h.marks.rows; failed = h.is_failed; told = h.told } in
    let law : Lawful g.S.Store = record { clean = g.met.S.Backing.clean; settled = g.met.S.Store.settled; stays = g.met.S.Store.stays } in
    subst (λ s. WritesOf g.S.Store law s s (forgotten (state_of g.S.Store s) c.args.version) (Ok tt)) c.self.view_is (idle g.S.Store law old _ c.self.invariant c.if-self.false (sym (forgotten_nothing (state_of g.S.Store old) c.args.version (sound_of g.S.Store law old c.self.invariant) (subst (λ n. c.args.version ≤ n) (sym (floor_of g.S.Store law old c.self.invariant)) (le_from_le c.args.version h.marks.floor (cc (c.le.ensures, c.if-le.true)))))))

pub invariant_of-self : goal.invariant_of-self
invariant_of-self g c =
    let h = c.self.inside in
    let old : Seen _ = record { conn = h.conn; applied = h.marks.applied; floor = h.marks.floor; rows = h.marks.rows; failed = h.is_failed; told = h.told } in
    let law : Lawful g.S.Store = record { clean = g.met.S.Backing.clean; settled = g.met.S.Store.settled; stays = g.met.S.Store.stays } in
    let s = stands_of g.S.Store law old c.self.invariant c.if-self.false in
    let at = state g.S.Store h.conn in
    let new : Seen _ = record { conn = c.forget.new.conn; applied = h.marks.applied; floor = c.args.version; rows = c.in-Ok.rows; failed = h.is_failed; told = c.forget.new.told } in
    let sound = forgotten_sound (state_in at.now.trees) c.args.version s.sound (subst (λ n. c.args.version ≤ n) (sym s.applied_is) (le_from_not_gt c.args.version h.marks.applied (cc (c.gt.ensures, c.if-gt.false)))) in
    let above = above_from_not_le c.args.version h.marks.floor (cc (c.le.ensures, c.if-le.false)) in
    let most : c.args.version ≡ max (floor_in (at.now.trees 4)) c.args.version = omega (arith, above, s.floor_is) in
    let is = made_store g.S.Store law old new (forgotten (state_in at.now.trees) c.args.version) c.in-Ok.rows c.in-Ok.ensures.makes sound (sym s.applied_is) most refl in
    is

pub returns-in-Ok-clause-writes : goal.returns-in-Ok-clause-writes
returns-in-Ok-clause-writes g c =
    let h = c.self.inside in
    let old : Seen _ = record { conn = h.conn; applied = h.marks.applied; floor = h.marks.floor; rows = h.marks.rows; failed = h.is_failed; told = h.told } in
    let law : Lawful g.S.Store = record { clean = g.met.S.Backing.clean; settled = g.met.S.Store.settled; stays = g.met.S.Store.stays } in
    let s = stands_of g.S.Store law old c.self.invariant c.if-self.false in
    let at = state g.S.Store h.conn in
    let new : Seen _ = record { conn = c.forget.new.conn; applied = h.marks.applied; floor = c.args.version; rows = c.in-Ok.rows; failed = h.is_failed; told = c.forget.new.told } in
    let sound = forgotten_sound (state_in at.now.trees) c.args.version s.sound (subst (λ n. c.args.version ≤ n) (sym s.applied_is) (le_from_not_gt c.args.version h.marks.applied (cc (c.gt.ensures, c.if-gt.false)))) in
    let above = above_from_not_le c.args.version h.marks.floor (cc (c.le.ensures, c.if-le.false)) in
    let most : c.args.version ≡ max (floor_in (at.now.trees 4)) c.args.version = omega (arith, above, s.floor_is) in
    let is = made_store g.S.Store law old new (forgotten (state_in at.now.trees) c.args.version) c.in-Ok.rows c.in-Ok.ensures.makes sound (sym s.applied_is) most refl in
    subst (λ s. WritesOf g.S.Store law s new (forgotten (state_of g.S.Store s) c.args.version) (Ok tt)) c.self.view_is (made_by g.S.Store law (λ x. forgotten x c.args.version) old new c.in-Ok.rows is c.if-self.false c.if-self.false c.in-Ok.ensures.makes)

pub returns-in-Err-clause-writes : goal.returns-in-Err-clause-writes
returns-in-Err-clause-writes g c =
    let h = c.self.inside in
    let old : Seen _ = record { conn = h.conn; applied = h.marks.applied; floor = h.marks.floor; rows = h.marks.rows; failed = h.is_failed; told = h.told } in
    let law : Lawful g.S.Store = record { clean = g.met.S.Backing.clean; settled = g.met.S.Store.settled; stays = g.met.S.Store.stays } in
    subst (λ s. WritesOf g.S.Store law s (record old { conn = c.forget.new.conn; failed = c.is_device-self-inside.result; told = c.forget.new.told }) (forgotten (state_of g.S.Store s) c.args.version) (Err c.in-Err.fault)) c.self.view_is (unmade_by g.S.Store law (λ x. forgotten x c.args.version) old c.forget.new.conn c.forget.new.told c.in-Err.fault c.is_device-self-inside.result c.is_device-self-inside.ensures c.self.invariant c.if-self.false c.in-Err.ensures.makes)
