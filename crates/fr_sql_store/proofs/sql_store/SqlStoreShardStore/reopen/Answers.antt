use Rattle.std.proofs.Common.{sym, subst}
use Rattle.sqlite.specs.Held.{state}
use Rattle.fr_undo.specs.State.{IsStoreState}
use Rattle.fr_sql_store.specs.Tables.{shown}
use Rattle.fr_sql_store.proofs.StoreLemmas.{unknown_sound}
use Rattle.fr_sql_store.proofs.sql_store.SqlStoreShardStore.reopen.Goals as goal

pub returns-in_err-told-clause-sound : goal.returns-in_err-told-clause-sound
returns-in_err-told-clause-sound g c =
    let h = c.self.inside in
    subst (λ b. IsStoreState (shown b (state g.S.Store c.probe.new.conn) h.marks.applied h.marks.floor)) (sym c.if-self.true) (unknown_sound h.marks.applied h.marks.floor c.self.invariant.order)
