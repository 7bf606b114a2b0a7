use Rattle.std.proofs.Common.{ℕ, Ok, Err, Result, List, [], ◌∷◌, OnOk}
use Rattle.sqlite.specs.declared.types.Value.TheVariants.{Blob}
use Rattle.sqlite.specs.declared.error.Error.{Error}
use Rattle.sqlite.specs.Held.{state}
use Rattle.sqlite.specs.State.{State, ExecutesInside}
use Rattle.fr_sql_rows.specs.Connection.{IsLaidOut, HoldsBytes}
use Rattle.fr_sql_rows.proofs.TextLemmas.{bytes_text}
use Rattle.fr_sql_rows.proofs.FaultLemmas.{stays, inside}
use Rattle.fr_sql_rows.proofs.MetaWrites.{holds_bytes}
use Rattle.fr_sql_rows.proofs.meta.note_bytes.Goals as goal

on_ok : (old new : State) (bytes : List ℕ) (r : Result ℕ Error) → IsLaidOut old.now → ExecutesInside 0 bytes_text (Blob bytes ∷ []) old new r → OnOk r (HoldsBytes bytes old.now new.now)
on_ok old new bytes (Ok count) laid h = holds_bytes old new bytes count laid h.0
on_ok old new bytes (Err e) laid h = tt

pub returns-clause-ok : goal.returns-clause-ok
returns-clause-ok g c =
    let ran : ExecutesInside 0 bytes_text (Blob c.args.bytes.now ∷ []) (state g.S.Store c.args.tx.now.conn.now) (state g.S.Store c.run.new.tx.conn.now) c.run.result = rw c.as_slice.ensures at (rw c.params-to_sql.ensures at (c.run.ensures.runs (g.met.S.Backing.clean c.run.new.tx.conn.now.store) c.requires.inside.begun)) in
    on_ok _ _ c.args.bytes.now c.run.result c.requires.laid ran

pub returns-clause-inside : goal.returns-clause-inside
returns-clause-inside g c = inside (state g.S.Store c.args.tx.now.conn.now) _ _ _ c.run.result (c.run.ensures.runs (g.met.S.Backing.clean c.run.new.tx.conn.now.store) c.requires.inside.begun)

pub returns-clause-stays : goal.returns-clause-stays
returns-clause-stays g c = stays (state g.S.Store c.args.tx.now.conn.now) _ _ _ c.run.result (c.run.ensures.runs (g.met.S.Backing.clean c.run.new.tx.conn.now.store) c.requires.inside.begun)
