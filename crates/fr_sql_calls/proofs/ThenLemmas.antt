-- What a key held at a version, by its first undo row above that.
use Rattle.std.proofs.Common.{◌≡◌, ℕ, ◌-◌, ◌≤◌, List, Option, None, Some, Result, Ok, Err, IfOk, sym, ap, ◌∙◌, arith}
use Rattle.std.specs.Prelude.{unwrap_or}
use Rattle.std.specs.FinMap.{get}
use Rattle.sqlite.specs.Effect.{Database}
use Rattle.fr_undo.specs.State.{IsStoreState}
use Rattle.fr_undo.specs.Undo.{IsFirstAbove, least_row, value_undone}
use Rattle.fr_undo.proofs.IndexLemmas.{first_least, same_first}
use Rattle.fr_sql_rows.specs.Rows.{before_in, contents_in, undo_in}
use Rattle.fr_sql_calls.proofs.WorkLemmas.{get_undo}
use Rattle.fr_sql_calls.specs.Tables.{state_in}

module _ (db : Database) (t : ℕ) (q : List ℕ) (sound : IsStoreState (state_in db.trees)) (within : t ≤ (state_in db.trees).applied) where
  least : (o : Option (Option (List ℕ))) → IsFirstAbove (λ w. before_in (db.trees 2) (w, q)) t o → least_row (undo_in (db.trees 2)) q t ((state_in db.trees).applied - t) ≡ o
  least o first =
      first_least (undo_in (db.trees 2)) q t ((state_in db.trees).applied - t)
      (λ w some. let upto = sound.upto w q some in omega arith) o
      (same_first (λ w. before_in (db.trees 2) (w, q)) (λ w. get (undo_in (db.trees 2)) (w, q)) (λ w. sym (get_undo (db.trees 2) (w, q))) t o first)

  -- the key has a row above the version: it held what that says
  pub was_before : (before : Option (List ℕ)) → IsFirstAbove (λ w. before_in (db.trees 2) (w, q)) t (Some before) → before ≡ value_undone (state_in db.trees) t q
  was_before before first = sym (ap (λ o. unwrap_or o (get (contents_in (db.trees 0)) q)) (least (Some before) first))

  -- it has none: it held what it holds
  was_now : (value : Option (List ℕ)) → IsFirstAbove (λ w. before_in (db.trees 2) (w, q)) t None → value ≡ get (contents_in (db.trees 0)) q → value ≡ value_undone (state_in db.trees) t q
  was_now value first is = is ∙ sym (ap (λ o. unwrap_or o (get (contents_in (db.trees 0)) q)) (least None first))

  pub now_read : {E : Type 0} (r : Result (Option (List ℕ)) E) → IsFirstAbove (λ w. before_in (db.trees 2) (w, q)) t None → IfOk r (λ value. value ≡ get (contents_in (db.trees 0)) q)
      → IfOk r (λ value. value ≡ value_undone (state_in db.trees) t q)
  now_read (Ok value) first is = was_now value first is
  now_read (Err e) first is = tt
