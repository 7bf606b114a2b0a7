use Rattle.std.proofs.Common.{◌≡◌, sym, subst}
use Rattle.std.specs.FinMap as map
use Rattle.fr_sql_store.specs.Tables.{Seen, state_of}
use Rattle.fr_sql_store.proofs.StoreLemmas.{Lawful, no_rows_of}
use Rattle.fr_sql_store.proofs.sql_store.SqlStoreShardStore.undo_rows.Goals as goal

pub returns-then-self : goal.returns-then-self
returns-then-self g c =
    let h = c.self.inside in
    let old : Seen _ = record { conn = h.conn; applied = h.marks.applied; floor = h.marks.floor; rows = h.marks.rows; failed = h.is_failed; told = h.told } in
    let law : Lawful g.S.Store = record { clean = g.met.S.Backing.clean; settled = g.met.S.Store.settled; stays = g.met.S.Store.stays } in
    subst (λ s. 0 ≡ map.len (state_of g.S.Store s).undo) c.self.view_is (sym (no_rows_of g.S.Store law old c.if-self.true))
