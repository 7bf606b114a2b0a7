use Rattle.std.proofs.Common.{◌≡◌, IfOk, Err, subst}
use Rattle.std.specs.FinMap as map
use Rattle.fr_undo.specs.declared.fault.StoreFault.TheVariants.{Failed}
use Rattle.fr_undo.specs.State.{StoreState}
use Rattle.fr_sql_store.specs.Tables.{Seen, state_of}
use Rattle.fr_sql_store.proofs.StoreLemmas.{Lawful, ReadsOf, reads_not}
use Rattle.fr_sql_store.proofs.ReadLemmas.{read_by, reads_by, shown_by}
use Rattle.fr_sql_store.proofs.sql_store.SqlStoreShardStore.dump.Goals as goal

pub returns-then-self-clause-reads : goal.returns-then-self-clause-reads
returns-then-self-clause-reads g c =
    let h = c.self.inside in
    let old : Seen _ = record { conn = h.conn; applied = h.marks.applied; floor = h.marks.floor; rows = h.marks.rows; failed = h.is_failed; told = h.told } in
    let law : Lawful g.S.Store = record { clean = g.met.S.Backing.clean; settled = g.met.S.Store.settled; stays = g.met.S.Store.stays } in
    subst (λ s. ReadsOf g.S.Store law s s (Err Failed)) c.self.view_is (reads_not g.S.Store law old c.self.invariant c.if-self.true)

pub returns-clause-rows : goal.returns-clause-rows
returns-clause-rows g c =
    let h = c.self.inside in
    let old : Seen _ = record { conn = h.conn; applied = h.marks.applied; floor = h.marks.floor; rows = h.marks.rows; failed = h.is_failed; told = h.told } in
    let law : Lawful g.S.Store = record { clean = g.met.S.Backing.clean; settled = g.met.S.Store.settled; stays = g.met.S.Store.stays } in
    subst (λ s. IfOk c.dump-rows.result (λ rows. rows.items ≡ map.entries (state_of g.S.Store s).contents)) c.self.view_is (shown_by g.S.Store law (λ (x : StoreState). IfOk c.dump-rows.result (λ rows. rows.items ≡ map.entries x.contents)) old c.if-self.false c.dump-rows.ensures.rows)

pub returns-clause-reads : goal.returns-clause-reads
returns-clause-reads g c =
    let h = c.self.inside in
    let old : Seen _ = record { conn = h.conn; applied = h.marks.applied; floor = h.marks.floor; rows = h.marks.rows; failed = h.is_failed; told = h.told } in
    let law : Lawful g.S.Store = record { clean = g.met.S.Backing.clean; settled = g.met.S.Store.settled; stays = g.met.S.Store.stays } in
    subst (λ s. ReadsOf g.S.Store law s (record old { conn = c.dump-rows.new.conn; failed = c.met_device-self-inside.result; told = c.dump-rows.new.told }) c.dump-rows.result) c.self.view_is (reads_by g.S.Store law old c.dump-rows.new.conn c.dump-rows.new.told c.dump-rows.result c.met_device-self-inside.result c.met_device-self-inside.ensures c.self.invariant c.if-self.false c.dump-rows.ensures.looks)

pub invariant_of-self : goal.invariant_of-self
invariant_of-self g c =
    let h = c.self.inside in
    let old : Seen _ = record { conn = h.conn; applied = h.marks.applied; floor = h.marks.floor; rows = h.marks.rows; failed = h.is_failed; told = h.told } in
    let law : Lawful g.S.Store = record { clean = g.met.S.Backing.clean; settled = g.met.S.Store.settled; stays = g.met.S.Store.stays } in
    read_by g.S.Store law old c.dump-rows.new.conn c.dump-rows.new.told c.dump-rows.result c.met_device-self-inside.result c.met_device-self-inside.ensures c.self.invariant c.if-self.false c.dump-rows.ensures.looks
