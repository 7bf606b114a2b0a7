use Rattle.std.proofs.Common.{ℕ, Ok, Err, Result, None, List, [], ◌∷◌, OnOk}
use Rattle.sqlite.specs.declared.types.Value.TheVariants.{Blob}
use Rattle.sqlite.specs.declared.error.Error.{Error}
use Rattle.sqlite.specs.Held.{state}
use Rattle.sqlite.specs.State.{State, ExecutesInside}
use Rattle.fr_sql_rows.specs.Connection.{IsLaidOut, Sets}
use Rattle.fr_sql_rows.proofs.TextLemmas.{remove_text}
use Rattle.fr_sql_rows.proofs.FaultLemmas.{stays, inside}
use Rattle.fr_sql_rows.proofs.KvWrites.{removes}
use Rattle.fr_sql_rows.proofs.kv.remove.Goals as goal

on_ok : (old new : State) (k : List ℕ) (r : Result ℕ Error) → IsLaidOut old.now → ExecutesInside 0 remove_text (Blob k ∷ []) old new r → OnOk r (Sets k None old.now new.now)
on_ok old new k (Ok count) laid h = removes old new k count laid h.0
on_ok old new k (Err e) laid h = tt

pub returns-clause-ok : goal.returns-clause-ok
returns-clause-ok g c =
    let ran : ExecutesInside 0 remove_text (Blob c.args.key.now ∷ []) (state g.S.Store c.args.tx.now.conn.now) (state g.S.Store c.run.new.tx.conn.now) c.run.result = rw c.as_slice.ensures at (rw c.params-to_sql.ensures at (c.run.ensures.runs (g.met.S.Backing.clean c.run.new.tx.conn.now.store) c.requires.inside.begun)) in
    on_ok _ _ c.args.key.now c.run.result c.requires.laid ran

pub returns-clause-inside : goal.returns-clause-inside
returns-clause-inside g c = inside (state g.S.Store c.args.tx.now.conn.now) _ _ _ c.run.result (c.run.ensures.runs (g.met.S.Backing.clean c.run.new.tx.conn.now.store) c.requires.inside.begun)

pub returns-clause-stays : goal.returns-clause-stays
returns-clause-stays g c = stays (state g.S.Store c.args.tx.now.conn.now) _ _ _ c.run.result (c.run.ensures.runs (g.met.S.Backing.clean c.run.new.tx.conn.now.store) c.requires.inside.begun)
