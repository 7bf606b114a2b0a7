use Rattle.std.proofs.Common.{◌≡◌, false, subst}
use Rattle.sqlite.specs.Held.{state}
use Rattle.fr_sql_store.specs.Tables.{Seen, state_of, state_in}
use Rattle.fr_sql_store.proofs.FileLemmas.{state_committed}
use Rattle.fr_sql_store.proofs.sql_store.SqlStore.into_conn.Goals as goal

pub returns-clause-committed : goal.returns-clause-committed
returns-clause-committed g c =
    let h = c.self.inside in
    let s : Seen _ = record { conn = h.conn; applied = h.marks.applied; floor = h.marks.floor; rows = h.marks.rows; failed = h.is_failed; told = h.told } in
    subst (λ (x : Seen _). x.failed ≡ false → state_of g.S.Store x ≡ state_in (state g.S.Store h.conn).committed.trees) c.self.view_is (state_committed g.S.Store s c.self.invariant)
