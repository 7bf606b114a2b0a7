use Rattle.std.proofs.Common.{◌≡◌, ℕ, pos, w64, to_z, of_z, Ok, Err, Result, Some, None, List, [], ◌∷◌, OnOk}
use Rattle.sqlite.specs.declared.types.Value.TheVariants.{Int, Blob}
use Rattle.sqlite.specs.declared.error.Error.{Error}
use Rattle.sqlite.specs.Held.{state}
use Rattle.sqlite.specs.State.{State, ExecutesInside}
use Rattle.fr_sql_rows.specs.Rows.{before_in}
use Rattle.fr_sql_rows.specs.Connection.{IsLaidOut, Notes}
use Rattle.fr_sql_rows.proofs.TextLemmas.{note_text}
use Rattle.fr_sql_rows.proofs.FaultLemmas.{stays, inside}
use Rattle.fr_sql_rows.proofs.StepLemmas.{number_fits}
use Rattle.fr_sql_rows.proofs.UndoWrites.{notes}
use Rattle.fr_sql_rows.proofs.undo.note_value.Goals as goal

on_ok : (old new : State) (version : ℕ) (k b : List ℕ) (r : Result ℕ Error) → IsLaidOut old.now → before_in (old.now.trees 2) (version, k) ≡ None → ExecutesInside 0 note_text (Int (pos version) ∷ Blob k ∷ Blob b ∷ []) old new r
    → OnOk r (Notes version k (Some b) old.now new.now)
on_ok old new version k b (Ok count) laid lacks h = notes old new version k b count laid lacks h.0
on_ok old new version k b (Err e) laid lacks h = tt

pub returns-clause-ok : goal.returns-clause-ok
returns-clause-ok g c =
    let same : c.number_of.result ≡ pos c.args.version = c.number_of.ensures.value in
    let ran : ExecutesInside 0 note_text (Int (to_z w64 (of_z w64 (pos c.args.version))) ∷ Blob c.args.key.now ∷ Blob c.args.before.now ∷ []) (state g.S.Store c.args.tx.now.conn.now) (state g.S.Store c.run.new.tx.conn.now) c.run.result =
    rw (same, c.as_slice.ensures, c.as_slice-2.ensures) at (rw (c.params-to_sql.ensures, c.params-to_sql-2.ensures, c.params-to_sql-3.ensures) at (c.run.ensures.runs (g.met.S.Backing.clean c.run.new.tx.conn.now.store) c.requires.inside.begun)) in
    on_ok _ _ c.args.version c.args.key.now c.args.before.now c.run.result c.requires.laid c.requires.absent (rw (number_fits c.args.version c.number_of.ensures.below) at ran)

pub returns-clause-inside : goal.returns-clause-inside
returns-clause-inside g c = inside (state g.S.Store c.args.tx.now.conn.now) _ _ _ c.run.result (c.run.ensures.runs (g.met.S.Backing.clean c.run.new.tx.conn.now.store) c.requires.inside.begun)

pub returns-clause-stays : goal.returns-clause-stays
returns-clause-stays g c = stays (state g.S.Store c.args.tx.now.conn.now) _ _ _ c.run.result (c.run.ensures.runs (g.met.S.Backing.clean c.run.new.tx.conn.now.store) c.requires.inside.begun)
