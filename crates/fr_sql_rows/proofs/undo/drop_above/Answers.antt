use Rattle.std.proofs.Common.{◌≡◌, ℕ, pos, w64, to_z, of_z, Ok, Err, Result, [], ◌∷◌, OnOk, IfOk, length, ◌+◌, nat_le}
use Rattle.sqlite.specs.declared.types.Value.TheVariants.{Int}
use Rattle.sqlite.specs.declared.error.Error.{Error}
use Rattle.sqlite.specs.Held.{state}
use Rattle.sqlite.specs.State.{State, ExecutesInside}
use Rattle.fr_sql_rows.specs.Connection.{IsLaidOut, Retains}
use Rattle.fr_sql_rows.proofs.TextLemmas.{drop_above_text}
use Rattle.fr_sql_rows.proofs.FaultLemmas.{stays, inside}
use Rattle.fr_sql_rows.proofs.StepLemmas.{number_fits}
use Rattle.fr_sql_rows.proofs.UndoWrites.{drops_above, counts_above}
use Rattle.fr_sql_rows.proofs.undo.drop_above.Goals as goal

on_ok : (old new : State) (version : ℕ) (r : Result ℕ Error) → IsLaidOut old.now → ExecutesInside 0 drop_above_text (Int (pos version) ∷ []) old new r → OnOk r (Retains (λ p. nat_le p.0 version) old.now new.now)
on_ok old new version (Ok count) laid h = drops_above old new version count laid h.0
on_ok old new version (Err e) laid h = tt

counted : (old new : State) (version : ℕ) (r : Result ℕ Error) → IsLaidOut old.now → ExecutesInside 0 drop_above_text (Int (pos version) ∷ []) old new r → IfOk r (λ gone. gone + length (new.now.trees 2) ≡ length (old.now.trees 2))
counted old new version (Ok count) laid h = counts_above old new version count laid h.0
counted old new version (Err e) laid h = tt

pub returns-clause-count : goal.returns-clause-count
returns-clause-count g c =
    let same : c.number_of.result ≡ pos c.args.version = c.number_of.ensures.value in
    let ran : ExecutesInside 0 drop_above_text (Int (to_z w64 (of_z w64 (pos c.args.version))) ∷ []) (state g.S.Store c.args.tx.now.conn.now) (state g.S.Store c.run.new.tx.conn.now) c.run.result = rw same at (rw c.params-to_sql.ensures at (c.run.ensures.runs (g.met.S.Backing.clean c.run.new.tx.conn.now.store) c.requires.inside.begun)) in
    counted _ _ c.args.version c.run.result c.requires.laid (rw (number_fits c.args.version c.number_of.ensures.below) at ran)

pub returns-clause-ok : goal.returns-clause-ok
returns-clause-ok g c =
    let same : c.number_of.result ≡ pos c.args.version = c.number_of.ensures.value in
    let ran : ExecutesInside 0 drop_above_text (Int (to_z w64 (of_z w64 (pos c.args.version))) ∷ []) (state g.S.Store c.args.tx.now.conn.now) (state g.S.Store c.run.new.tx.conn.now) c.run.result = rw same at (rw c.params-to_sql.ensures at (c.run.ensures.runs (g.met.S.Backing.clean c.run.new.tx.conn.now.store) c.requires.inside.begun)) in
    on_ok _ _ c.args.version c.run.result c.requires.laid (rw (number_fits c.args.version c.number_of.ensures.below) at ran)

pub returns-clause-inside : goal.returns-clause-inside
returns-clause-inside g c = inside (state g.S.Store c.args.tx.now.conn.now) _ _ _ c.run.result (c.run.ensures.runs (g.met.S.Backing.clean c.run.new.tx.conn.now.store) c.requires.inside.begun)

pub returns-clause-stays : goal.returns-clause-stays
returns-clause-stays g c = stays (state g.S.Store c.args.tx.now.conn.now) _ _ _ c.run.result (c.run.ensures.runs (g.met.S.Backing.clean c.run.new.tx.conn.now.store) c.requires.inside.begun)
