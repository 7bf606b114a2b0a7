use Rattle.std.proofs.Common.{subst}
use Rattle.sqlite.specs.Held.{Held, state}
use Rattle.fr_undo.specs.State.{StoreState}
use Rattle.fr_sql_store.specs.Tables.{Leaves, StoreLeaves}
use Rattle.fr_sql_store.proofs.sql_store.SqlStore.into_store.Goals as goal

pub returns : goal.returns
returns g c =
    subst (λ (h : Held _). (x : StoreState) → StoreLeaves g.S.Store c.into_store.result x → Leaves (state g.S.Store h) x) c.into_conn.ensures.conn
    (λ x (db, may, is). (db, c.into_store.ensures.quiet.outcomes db may, is))
