use Rattle.std.proofs.Common.{◌≡◌, ℕ, Ok, Err, Result, Some, None, List, [], ◌∷◌, OnOk}
use Rattle.sqlite.specs.declared.types.Value.TheVariants.{Blob}
use Rattle.sqlite.specs.declared.error.Error.{Error}
use Rattle.sqlite.specs.Held.{state}
use Rattle.sqlite.specs.State.{State, ExecutesInside}
use Rattle.fr_sql_rows.specs.Rows.{value_in}
use Rattle.fr_sql_rows.specs.Connection.{IsLaidOut, Sets}
use Rattle.fr_sql_rows.proofs.TextLemmas.{put_text}
use Rattle.fr_sql_rows.proofs.FaultLemmas.{stays, inside}
use Rattle.fr_sql_rows.proofs.KvWrites.{puts}
use Rattle.fr_sql_rows.proofs.kv.put.Goals as goal

on_ok : (old new : State) (k v : List ℕ) (r : Result ℕ Error) → IsLaidOut old.now → value_in (old.now.trees 0) k ≡ None → ExecutesInside 0 put_text (Blob k ∷ Blob v ∷ []) old new r → OnOk r (Sets k (Some v) old.now new.now)
on_ok old new k v (Ok count) laid lacks h = puts old new k v count laid lacks h.0
on_ok old new k v (Err e) laid lacks h = tt

pub returns-clause-ok : goal.returns-clause-ok
returns-clause-ok g c =
    let ran : ExecutesInside 0 put_text (Blob c.args.key.now ∷ Blob c.args.value.now ∷ []) (state g.S.Store c.args.tx.now.conn.now) (state g.S.Store c.run.new.tx.conn.now) c.run.result =
    rw (c.as_slice.ensures, c.as_slice-2.ensures) at (rw (c.params-to_sql.ensures, c.params-to_sql-2.ensures) at (c.run.ensures.runs (g.met.S.Backing.clean c.run.new.tx.conn.now.store) c.requires.inside.begun)) in
    on_ok _ _ c.args.key.now c.args.value.now c.run.result c.requires.laid c.requires.absent ran

pub returns-clause-inside : goal.returns-clause-inside
returns-clause-inside g c = inside (state g.S.Store c.args.tx.now.conn.now) _ _ _ c.run.result (c.run.ensures.runs (g.met.S.Backing.clean c.run.new.tx.conn.now.store) c.requires.inside.begun)

pub returns-clause-stays : goal.returns-clause-stays
returns-clause-stays g c = stays (state g.S.Store c.args.tx.now.conn.now) _ _ _ c.run.result (c.run.ensures.runs (g.met.S.Backing.clean c.run.new.tx.conn.now.store) c.requires.inside.begun)
