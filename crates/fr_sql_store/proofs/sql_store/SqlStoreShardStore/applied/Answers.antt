use Rattle.std.proofs.Common.{subst}
use Rattle.fr_undo.specs.State.{IsStoreState}
use Rattle.fr_sql_store.specs.Tables.{Seen, state_of}
use Rattle.fr_sql_store.proofs.StoreLemmas.{Lawful, sound_of}
use Rattle.fr_sql_store.proofs.sql_store.SqlStoreShardStore.applied.Goals as goal

pub returns-clause-sound : goal.returns-clause-sound
returns-clause-sound g c =
    let h = c.self.inside in
    let old : Seen _ = record { conn = h.conn; applied = h.marks.applied; floor = h.marks.floor; rows = h.marks.rows; failed = h.is_failed; told = h.told } in
    let law : Lawful g.S.Store = record { clean = g.met.S.Backing.clean; settled = g.met.S.Store.settled; stays = g.met.S.Store.stays } in
    subst (λ s. IsStoreState (state_of g.S.Store s)) c.self.view_is (sound_of g.S.Store law old c.self.invariant)
