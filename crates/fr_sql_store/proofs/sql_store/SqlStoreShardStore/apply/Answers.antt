use Rattle.std.proofs.Common.{◌<◌, Ok, Err, refl, sym, subst}
use Rattle.sqlite.specs.Held.{state}
use Rattle.fr_undo.specs.declared.fault.StoreFault.TheVariants.{Failed, NotAfter}
use Rattle.fr_undo.specs.Undo.{extended}
use Rattle.fr_undo.proofs.StateLemmas.{extended_sound}
use Rattle.fr_undo.proofs.RowLemmas.{above_from_not_le}
use Rattle.fr_sql_store.specs.Tables.{Seen, state_of, state_in}
use Rattle.fr_sql_store.proofs.StoreLemmas.{Lawful, WritesOf, stands_of, writes_not, refused, made_store, made_by, unmade_by}
use Rattle.fr_sql_store.proofs.sql_store.SqlStoreShardStore.apply.Goals as goal

pub returns-then-self-clause-writes : goal.returns-then-self-clause-writes
returns-then-self-clause-writes g c =
    let h = c.self.inside in
    let old : Seen _ = record { conn = h.conn; applied = h.marks.applied; floor = h.marks.floor; rows = h.marks.rows; failed = h.is_failed; told = h.told } in
    let law : Lawful g.S.Store = record { clean = g.met.S.Backing.clean; settled = g.met.S.Store.settled; stays = g.met.S.Store.stays } in
    subst (λ s. WritesOf g.S.Store law s s (extended (state_of g.S.Store s) c.args.version c.args.batch.now) (Err Failed)) c.self.view_is (writes_not g.S.Store law old _ c.self.invariant c.if-self.true)

pub returns-then-le-clause-writes : goal.returns-then-le-clause-writes
returns-then-le-clause-writes g c =
    let h = c.self.inside in
    let old : Seen _ = record { conn = h.conn; applied = h.marks.applied; floor = h.marks.floor; rows = h.marks.rows; failed = h.is_failed; told = h.told } in
    let law : Lawful g.S.Store = record { clean = g.met.S.Backing.clean; settled = g.met.S.Store.settled; stays = g.met.S.Store.stays } in
    subst (λ s. WritesOf g.S.Store law s s (extended (state_of g.S.Store s) c.args.version c.args.batch.now) (Err NotAfter)) c.self.view_is (refused g.S.Store law old _ NotAfter c.self.invariant c.if-self.false refl (λ e. cc))

pub invariant_of-self : goal.invariant_of-self
invariant_of-self g c =
    let h = c.self.inside in
    let old : Seen _ = record { conn = h.conn; applied = h.marks.applied; floor = h.marks.floor; rows = h.marks.rows; failed = h.is_failed; told = h.told } in
    let law : Lawful g.S.Store = record { clean = g.met.S.Backing.clean; settled = g.met.S.Store.settled; stays = g.met.S.Store.stays } in
    let s = stands_of g.S.Store law old c.self.invariant c.if-self.false in
    let at = state g.S.Store h.conn in
    let new : Seen _ = record { conn = c.apply.new.conn; applied = c.args.version; floor = h.marks.floor; rows = c.in-Ok.rows; failed = h.is_failed; told = c.apply.new.told } in
    let later = above_from_not_le c.args.version h.marks.applied (cc (c.le.ensures, c.if-le.false)) in
    let sound = extended_sound (state_in at.now.trees) c.args.version c.args.batch.now s.sound (subst (λ n. n < c.args.version) (sym s.applied_is) later) in
    let is = made_store g.S.Store law old new (extended (state_in at.now.trees) c.args.version c.args.batch.now) c.in-Ok.rows c.in-Ok.ensures.makes sound refl (sym s.floor_is) refl in
    is

pub returns-in-Ok-clause-writes : goal.returns-in-Ok-clause-writes
returns-in-Ok-clause-writes g c =
    let h = c.self.inside in
    let old : Seen _ = record { conn = h.conn; applied = h.marks.applied; floor = h.marks.floor; rows = h.marks.rows; failed = h.is_failed; told = h.told } in
    let law : Lawful g.S.Store = record { clean = g.met.S.Backing.clean; settled = g.met.S.Store.settled; stays = g.met.S.Store.stays } in
    let s = stands_of g.S.Store law old c.self.invariant c.if-self.false in
    let at = state g.S.Store h.conn in
    let new : Seen _ = record { conn = c.apply.new.conn; applied = c.args.version; floor = h.marks.floor; rows = c.in-Ok.rows; failed = h.is_failed; told = c.apply.new.told } in
    let later = above_from_not_le c.args.version h.marks.applied (cc (c.le.ensures, c.if-le.false)) in
    let sound = extended_sound (state_in at.now.trees) c.args.version c.args.batch.now s.sound (subst (λ n. n < c.args.version) (sym s.applied_is) later) in
    let is = made_store g.S.Store law old new (extended (state_in at.now.trees) c.args.version c.args.batch.now) c.in-Ok.rows c.in-Ok.ensures.makes sound refl (sym s.floor_is) refl in
    subst (λ s. WritesOf g.S.Store law s new (extended (state_of g.S.Store s) c.args.version c.args.batch.now) (Ok tt)) c.self.view_is (made_by g.S.Store law (λ x. extended x c.args.version c.args.batch.now) old new c.in-Ok.rows is c.if-self.false c.if-self.false c.in-Ok.ensures.makes)

pub returns-in-Err-clause-writes : goal.returns-in-Err-clause-writes
returns-in-Err-clause-writes g c =
    let h = c.self.inside in
    let old : Seen _ = record { conn = h.conn; applied = h.marks.applied; floor = h.marks.floor; rows = h.marks.rows; failed = h.is_failed; told = h.told } in
    let law : Lawful g.S.Store = record { clean = g.met.S.Backing.clean; settled = g.met.S.Store.settled; stays = g.met.S.Store.stays } in
    subst (λ s. WritesOf g.S.Store law s (record old { conn = c.apply.new.conn; failed = c.is_device-self-inside.result; told = c.apply.new.told }) (extended (state_of g.S.Store s) c.args.version c.args.batch.now) (Err c.in-Err.fault)) c.self.view_is (unmade_by g.S.Store law (λ x. extended x c.args.version c.args.batch.now) old c.apply.new.conn c.apply.new.told c.in-Err.fault c.is_device-self-inside.result c.is_device-self-inside.ensures c.self.invariant c.if-self.false c.in-Err.ensures.makes)
