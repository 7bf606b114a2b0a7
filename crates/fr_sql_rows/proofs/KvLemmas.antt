-- What a query of kv answers.
use Rattle.std.proofs.Common.{◌≡◌, ◌≤◌, ℕ, List, [], ◌∷◌, map, filter, flat_map, slice_get, option_map, length, Bool, true, false, None, Some, refl, sym, ap, subst, ◌∙◌}
use Rattle.std.specs.List.{AllByRecursion}
use Rattle.sqlite.specs.declared.types.Value.{Value}
use Rattle.sqlite.specs.declared.types.Value.TheVariants.{Null, Blob}
use Rattle.sqlite.specs.Order.{Row, column, bytes}
use Rattle.sqlite.specs.Term.{col, holds}
use Rattle.sqlite.specs.Ops.{binary}
use Rattle.sqlite.specs.Query.{end, matches_as}
use Rattle.sqlite.specs.Term.{eval_all}
use Rattle.sqlite.specs.Program.{overlay}
use Rattle.sqlite.specs.State.{State, Shown}
use Rattle.sqlite.proofs.Callers.{reads_as}
use Rattle.fr_sql_rows.specs.Schema.{schema}
use Rattle.fr_sql_rows.specs.Connection.{IsLaidOut}
use Rattle.sqlite_value.proofs.OrderLemmas.{value_cmp-Blob}
use Rattle.fr_sql_rows.proofs.QueryLemmas.{truth_is, plain_answer}
use Rattle.fr_sql_rows.proofs.ListLemmas.{map_length}
use Rattle.fr_sql_rows.specs.Rows.{is_at_key, IsKvRow, value_in, value_of}
use Rattle.fr_sql_rows.proofs.TextLemmas.{has_key, get_text, get_is, get_plain, get_unlisted}

-- the condition on the key holds where the key is the one that is asked for
pub holds_at : (params row : Row) (q : List ℕ) → IsKvRow row → column params 0 ≡ Blob q → holds (params ∷ row ∷ []) has_key ≡ is_at_key q row
unfolding binary
holds_at params row q (id, k, v, is) given =
    rw (is, given, value_cmp-Blob k q) (truth_is _)

-- the rows that pass
pub found_by : (lost : Value) (params : Row) (q : List ℕ) (db : ℕ → List Row) (rows : List Row) → AllByRecursion IsKvRow rows → column params 0 ≡ Blob q
    → flat_map (λ r. matches_as lost db (has_key ∷ []) end (params ∷ r ∷ [])) rows ≡ map (λ r. params ∷ r ∷ []) (filter (is_at_key q) rows)
found_by lost params q db [] all given = refl
found_by lost params q db (r ∷ rows) all given = step (is_at_key q r) (holds_at params r q all.0 given) refl (found_by lost params q db rows all.1 given)
  where
    step : (b : Bool) → holds (params ∷ r ∷ []) has_key ≡ is_at_key q r → is_at_key q r ≡ b
        → flat_map (λ r. matches_as lost db (has_key ∷ []) end (params ∷ r ∷ [])) rows ≡ map (λ r. params ∷ r ∷ []) (filter (is_at_key q) rows)
        → flat_map (λ r. matches_as lost db (has_key ∷ []) end (params ∷ r ∷ [])) (r ∷ rows) ≡ map (λ r. params ∷ r ∷ []) (filter (is_at_key q) (r ∷ rows))
    step true h e more = rw (h, e) (ap (λ xs. (params ∷ r ∷ []) ∷ xs) more)
    step false h e more = rw (h, e) more

abbrev pub shown_of : Row → List Row → List Row
shown_of params rows = map (eval_all (col 1 2 ∷ [])) (map (λ r. params ∷ r ∷ []) rows)

-- the query of a key shows the values of the rows that have it
pub gets : (old new : State) (q : List ℕ) (rows : List Row) → IsLaidOut old.now → Shown get_text (Blob q ∷ []) old new rows
    → rows ≡ shown_of (Blob q ∷ []) (filter (is_at_key q) (old.now.trees 0))
gets old new q rows laid h =
    let params = Blob q ∷ [] in
    let read = reads_as get_text params old new schema laid.schema _ get_is get_plain get_unlisted rows h in
    let found = found_by Null params q (overlay old.now.trees []) (old.now.trees 0) laid.kv.shaped refl in
    let few : length (map (λ r. params ∷ r ∷ []) (filter (is_at_key q) (old.now.trees 0))) ≤ 1 = subst (λ n. n ≤ 1) (sym (map_length (λ (r : Row). params ∷ r ∷ []) (filter (is_at_key q) (old.now.trees 0)))) (laid.kv.single q) in
    plain_answer 0 (has_key ∷ []) (col 1 2 ∷ []) (overlay old.now.trees []) params rows _ found few read.answer

-- where it shows no row, the key has no value
pub gets_none : (old new : State) (q : List ℕ) (rows : List Row) → IsLaidOut old.now → Shown get_text (Blob q ∷ []) old new rows → slice_get rows 0 ≡ None → value_in (old.now.trees 0) q ≡ None
gets_none old new q rows laid h none = go (filter (is_at_key q) (old.now.trees 0)) (gets old new q rows laid h)
  where
    go : (fs : List Row) → rows ≡ shown_of (Blob q ∷ []) fs → option_map value_of (slice_get fs 0) ≡ None
    go [] e = refl
    go (r ∷ fs) e = absurd (let clash = sym none ∙ ap (λ xs. slice_get xs 0) e in cc)

-- the first row that it shows has the value
pub gets_some : (old new : State) (q : List ℕ) (rows : List Row) (row : Row) (v : List ℕ) → IsLaidOut old.now → Shown get_text (Blob q ∷ []) old new rows → slice_get rows 0 ≡ Some row → column row 0 ≡ Blob v
    → value_in (old.now.trees 0) q ≡ Some v
gets_some old new q rows row v laid h some is = go (filter (is_at_key q) (old.now.trees 0)) (gets old new q rows laid h)
  where
    go : (fs : List Row) → rows ≡ shown_of (Blob q ∷ []) fs → option_map value_of (slice_get fs 0) ≡ Some v
    go [] e = absurd (let clash = sym some ∙ ap (λ xs. slice_get xs 0) e in cc)
    go (r ∷ fs) e =
        let same : Some row ≡ Some (column r 2 ∷ []) = sym some ∙ ap (λ xs. slice_get xs 0) e in
        let first : row ≡ column r 2 ∷ [] = cc in
        ap Some (ap bytes (sym (ap (λ x. column x 0) first) ∙ is))
