use Rattle.std.proofs.Common.{refl, ◌≡◌, ℕ, Ok, Err, Result, Some, None, Option, List, [], ◌∷◌, IsSome, OnOk}
use Rattle.sqlite.specs.declared.types.Value.TheVariants.{Blob}
use Rattle.sqlite.specs.declared.error.Error.{Error}
use Rattle.sqlite.specs.Held.{state}
use Rattle.sqlite.specs.State.{State, ExecutesInside}
use Rattle.fr_sql_rows.specs.Rows.{value_in}
use Rattle.fr_sql_rows.specs.Connection.{IsLaidOut, Sets}
use Rattle.fr_sql_rows.proofs.TextLemmas.{change_text}
use Rattle.fr_sql_rows.proofs.FaultLemmas.{stays, inside}
use Rattle.fr_sql_rows.proofs.KvWrites.{changes}
use Rattle.fr_sql_rows.proofs.kv.change.Goals as goal

on_ok : (old new : State) (k v : List ℕ) (r : Result ℕ Error) (held : Option (List ℕ)) → value_in (old.now.trees 0) k ≡ held → IsSome held → IsLaidOut old.now → ExecutesInside 0 change_text (Blob k ∷ Blob v ∷ []) old new r
    → OnOk r (Sets k (Some v) old.now new.now)
on_ok old new k v (Ok count) None is some laid h = absurd (let clash = some in cc)
on_ok old new k v (Ok count) (Some w) is some laid h = changes old new k v w count laid is h.0
on_ok old new k v (Err e) held is some laid h = tt

pub returns-clause-ok : goal.returns-clause-ok
returns-clause-ok g c =
    let ran : ExecutesInside 0 change_text (Blob c.args.key.now ∷ Blob c.args.value.now ∷ []) (state g.S.Store c.args.tx.now.conn.now) (state g.S.Store c.run.new.tx.conn.now) c.run.result =
    rw (c.as_slice.ensures, c.as_slice-2.ensures) at (rw (c.params-to_sql.ensures, c.params-to_sql-2.ensures) at (c.run.ensures.runs (g.met.S.Backing.clean c.run.new.tx.conn.now.store) c.requires.inside.begun)) in
    on_ok _ _ c.args.key.now c.args.value.now c.run.result _ refl c.requires.held c.requires.laid ran

pub returns-clause-inside : goal.returns-clause-inside
returns-clause-inside g c = inside (state g.S.Store c.args.tx.now.conn.now) _ _ _ c.run.result (c.run.ensures.runs (g.met.S.Backing.clean c.run.new.tx.conn.now.store) c.requires.inside.begun)

pub returns-clause-stays : goal.returns-clause-stays
returns-clause-stays g c = stays (state g.S.Store c.args.tx.now.conn.now) _ _ _ c.run.result (c.run.ensures.runs (g.met.S.Backing.clean c.run.new.tx.conn.now.store) c.requires.inside.begun)
