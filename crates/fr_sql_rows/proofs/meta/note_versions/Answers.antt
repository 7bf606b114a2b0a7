use Rattle.std.proofs.Common.{◌≡◌, ℕ, pos, w64, to_z, of_z, Ok, Err, Result, [], ◌∷◌, OnOk}
use Rattle.sqlite.specs.declared.types.Value.TheVariants.{Int}
use Rattle.sqlite.specs.declared.error.Error.{Error}
use Rattle.sqlite.specs.Held.{state}
use Rattle.sqlite.specs.State.{State, ExecutesInside}
use Rattle.fr_sql_rows.specs.Connection.{IsLaidOut, Versions}
use Rattle.fr_sql_rows.proofs.TextLemmas.{versions_text}
use Rattle.fr_sql_rows.proofs.FaultLemmas.{stays, inside}
use Rattle.fr_sql_rows.proofs.StepLemmas.{number_fits}
use Rattle.fr_sql_rows.proofs.MetaWrites.{versions}
use Rattle.fr_sql_rows.proofs.meta.note_versions.Goals as goal

on_ok : (old new : State) (applied floor : ℕ) (r : Result ℕ Error) → IsLaidOut old.now → ExecutesInside 0 versions_text (Int (pos applied) ∷ Int (pos floor) ∷ []) old new r → OnOk r (Versions applied floor old.now new.now)
on_ok old new applied floor (Ok count) laid h = versions old new applied floor count laid h.0
on_ok old new applied floor (Err e) laid h = tt

pub returns-clause-ok : goal.returns-clause-ok
returns-clause-ok g c =
    let first : c.number_of.result ≡ pos c.args.applied = c.number_of.ensures.value in
    let second : c.number_of-2.result ≡ pos c.args.floor = c.number_of-2.ensures.value in
    let ran : ExecutesInside 0 versions_text (Int (to_z w64 (of_z w64 (pos c.args.applied))) ∷ Int (to_z w64 (of_z w64 (pos c.args.floor))) ∷ []) (state g.S.Store c.args.tx.now.conn.now) (state g.S.Store c.run.new.tx.conn.now) c.run.result =
    rw (first, second) at (rw (c.params-to_sql.ensures, c.params-to_sql-2.ensures) at (c.run.ensures.runs (g.met.S.Backing.clean c.run.new.tx.conn.now.store) c.requires.inside.begun)) in
    on_ok _ _ c.args.applied c.args.floor c.run.result c.requires.laid (rw (number_fits c.args.applied c.number_of.ensures.below, number_fits c.args.floor c.number_of-2.ensures.below) at ran)

pub returns-clause-inside : goal.returns-clause-inside
returns-clause-inside g c = inside (state g.S.Store c.args.tx.now.conn.now) _ _ _ c.run.result (c.run.ensures.runs (g.met.S.Backing.clean c.run.new.tx.conn.now.store) c.requires.inside.begun)

pub returns-clause-stays : goal.returns-clause-stays
returns-clause-stays g c = stays (state g.S.Store c.args.tx.now.conn.now) _ _ _ c.run.result (c.run.ensures.runs (g.met.S.Backing.clean c.run.new.tx.conn.now.store) c.requires.inside.begun)
