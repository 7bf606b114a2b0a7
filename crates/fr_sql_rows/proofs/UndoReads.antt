-- What the query of the undo rows shows.
use Rattle.std.proofs.lemmas.List.{take_more, map-append}
use Rattle.std.proofs.Common.{◌≡◌, inl, inr, ap₂, subst₂, zero, suc, ◌≤◌, ◌<◌, ◌+◌, ◌++◌, ℕ, pos, length, take, filter, map, slice_get, slice_index_or, option_map, List, [], ◌∷◌, Bool, true, false, cond, not, Option, None, refl, sym, ap, subst, ◌∙◌, arith}
use Rattle.std.specs.Prelude.{nat_le, nat_lt}
use Rattle.std.specs.Cmp.{nat_cmp_is}
use Rattle.std.proofs.lemmas.Bool.{ltb-true}
use Rattle.std.proofs.lemmas.Bool.Decides.{leb_tells}
use Rattle.std.specs.List.{AllByRecursion}
use Rattle.std.specs.List.Sorted.{IsPermutation, IsSorted}
use Rattle.std.specs.declared.cmp.Ordering.{Ordering}
use Rattle.std.specs.declared.cmp.Ordering.TheVariants.{Less, Equal, Greater}
use Rattle.std.specs.Ordering.{is_lt, eq_by_cmp, ordering_then, nat_cmp, int_cmp}
use Rattle.std.specs.FinMap.{find}
use Rattle.std.proofs.lemmas.List.Sorted.{IsPermutation-map}
use Rattle.sqlite.specs.declared.types.Value.{Value}
use Rattle.sqlite.specs.declared.types.Value.TheVariants.{Null, Int, Blob}
use Rattle.sqlite.specs.Order.{Row, column}
use Rattle.sqlite.specs.Term.{Term, col}
use Rattle.sqlite.specs.Query.{output, output_cmp, Output}
use Rattle.sqlite.specs.Program.{overlay}
use Rattle.sqlite.specs.State.{State, Shown}
use Rattle.sqlite.proofs.Callers.{reads_as}
use Rattle.sqlite_trees.proofs.ListLemmas.{IsPermutation-filter, all-permutation, filter-map, all-filter}
use Rattle.sqlite_value.proofs.OrderLemmas.{value_cmp-Blob, value_cmp-Int}
use Rattle.fr_base.specs.Bytes.{bytes_cmp}
use Rattle.fr_undo.specs.State.{Place, place_cmp}
use Rattle.fr_sql_rows.specs.Schema.{schema}
use Rattle.fr_sql_rows.specs.Connection.{IsLaidOut}
use Rattle.fr_sql_rows.specs.Rows.{IsUndoRow, place_of, before_of, before_in, shown_row, newest_first}
use Rattle.fr_sql_rows.proofs.TextLemmas.{sorted_query, up, down, is_above, above_text, above_is, above_plain, above_unlisted}
use Rattle.fr_sql_rows.proofs.ListLemmas.{map_length}
use Rattle.fr_sql_rows.proofs.TableLemmas.{retained, single_in}
use Rattle.fr_sql_rows.proofs.QueryLemmas.{found_where}
use Rattle.fr_sql_rows.proofs.ReadLemmas.{no_more, then_equal}
use Rattle.fr_sql_rows.proofs.UndoWrites.{same_place, exact_place, same_place-comm, where_above}

abbrev Entry : Type 0
Entry = Place × Option (List ℕ)

abbrev is_entry_at : Place → Entry → Bool
is_entry_at p e = same_place e.0 p

first_found : (p : Place) (es : List Entry) → find place_cmp p es ≡ option_map (λ (e : Entry). e.1) (slice_get (filter (is_entry_at p) es) 0)
first_found p [] = refl
first_found p (e ∷ es) = go (same_place e.0 p) refl (first_found p es)
  where
    go : (b : Bool) → same_place e.0 p ≡ b → find place_cmp p es ≡ option_map (λ (e : Entry). e.1) (slice_get (filter (is_entry_at p) es) 0)
        → find place_cmp p (e ∷ es) ≡ option_map (λ (e : Entry). e.1) (slice_get (filter (is_entry_at p) (e ∷ es)) 0)
    go true h more = let back : eq_by_cmp place_cmp p e.0 ≡ true = same_place-comm p e.0 ∙ h in rw (h, back) refl
    go false h more = let back : eq_by_cmp place_cmp p e.0 ≡ false = same_place-comm p e.0 ∙ h in rw (h, back) more

abbrev out_of : Output → Entry
out_of o = shown_row o.1

abbrev out : ℕ → List ℕ → Value → Output
out version k before = (Int (pos version) ∷ Blob k ∷ [], Int (pos version) ∷ Blob k ∷ before ∷ [])

abbrev IsOut : Output → Type 0
IsOut o = (version : ℕ) × (k : List ℕ) × (before : Value) × (o ≡ out version k before)

abbrev order : List (Term × Rattle.sqlite_value.specs.declared.keys.Key.Key)
order = (col 1 1, down) ∷ (col 1 2, up) ∷ []

abbrev ordered_by : Output → Output → Ordering
ordered_by = output_cmp (sorted_query 2 [] [] order)

not_less : (a b : ℕ) → nat_lt a b ≡ false → b ≤ a
not_less a b e = elim (leb_tells (suc a) b) [ inl h ↦ absurd (let clash = sym e ∙ h.0 in cc) | inr h ↦ (let below = h.1 in omega (arith, below)) ]

pub int_as_nat : (a b : ℕ) → int_cmp (pos a) (pos b) ≡ nat_cmp a b
int_as_nat a b = go (nat_lt a b) refl (nat_lt b a) refl
  where
    go : (s : Bool) → nat_lt a b ≡ s → (t : Bool) → nat_lt b a ≡ t → int_cmp (pos a) (pos b) ≡ nat_cmp a b
    go true e t f = let is : int_cmp (pos a) (pos b) ≡ Less = rw e refl in is ∙ nat_cmp_is a b Less (ltb-true a b e)
    go false e true f = let is : int_cmp (pos a) (pos b) ≡ Greater = rw (e, f) refl in is ∙ nat_cmp_is a b Greater (ltb-true b a f)
    go false e false f = let is : int_cmp (pos a) (pos b) ≡ Equal = rw (e, f) refl in is ∙ nat_cmp_is a b Equal (omega (arith, not_less a b e, not_less b a f))

-- the order of the query is the one by version and then by key
ordered_as : (v w : ℕ) (k l : List ℕ) (a b : Value) → ordered_by (out v k a) (out w l b) ≡ newest_first (out_of (out v k a)) (out_of (out w l b))
ordered_as v w k l a b = rw (value_cmp-Int (pos w) (pos v), value_cmp-Blob k l, int_as_nat w v) (ap (ordering_then (nat_cmp w v)) (then_equal (bytes_cmp k l)))

ordered_out : (o p : Output) → IsOut o → IsOut p → ordered_by o p ≡ newest_first (out_of o) (out_of p)
ordered_out o p a b = ap₂ ordered_by a.3 b.3 ∙ ordered_as a.0 b.0 a.1 b.1 a.2 b.2 ∙ sym (ap₂ (λ x y. newest_first (out_of x) (out_of y)) a.3 b.3)

sorted_out : (os : List Output) → AllByRecursion IsOut os → IsSorted ordered_by os → (k : ℕ) (d : Entry) → k + 1 < length (map out_of os)
    → is_lt (newest_first (slice_index_or (map out_of os) (k + 1) d) (slice_index_or (map out_of os) k d)) ≡ false
sorted_out [] outs sorted k d low = absurd (omega (arith, low))
sorted_out (o ∷ []) outs sorted k d low = absurd (omega (arith, low))
sorted_out (o ∷ p ∷ os) outs sorted zero d low = ap is_lt (sym (ordered_out p o outs.1.0 outs.0)) ∙ sorted 0 o (omega arith) (omega arith)
sorted_out (o ∷ p ∷ os) outs sorted (suc k) d low =
    let one : suc k + 1 ≡ suc (k + 1) = omega arith in
    subst (λ i. is_lt (newest_first (slice_index_or (map out_of (o ∷ p ∷ os)) i d) (slice_index_or (map out_of (p ∷ os)) k d)) ≡ false) (sym one)
    (sorted_out (p ∷ os) outs.1 (λ i e a b. shifted i e (sorted (i + 1) e (omega arith) (omega (arith, b)))) k d (omega (arith, low)))
  where
    shifted : (k : ℕ) (d : Output) → is_lt (ordered_by (slice_index_or (o ∷ p ∷ os) (k + 1 + 1) d) (slice_index_or (o ∷ p ∷ os) (k + 1) d)) ≡ false
        → is_lt (ordered_by (slice_index_or (p ∷ os) (k + 1) d) (slice_index_or (p ∷ os) k d)) ≡ false
    shifted k d h =
        let one : k + 1 ≡ suc k = omega arith in
        let two : k + 1 + 1 ≡ suc (k + 1) = omega arith in
        subst₂ (λ i j. is_lt (ordered_by (slice_index_or (o ∷ p ∷ os) i d) (slice_index_or (o ∷ p ∷ os) j d)) ≡ false) two one h

abbrev row_of : Row → Entry
row_of r = (place_of r, before_of r)

abbrev outs_of : List Row → List Output
outs_of found = map (λ r. (column r 1 ∷ column r 2 ∷ [], column r 1 ∷ column r 2 ∷ column r 3 ∷ [])) found

outs_are : (params : Row) (found : List Row) → map (output (sorted_query 2 is_above (col 1 1 ∷ col 1 2 ∷ col 1 3 ∷ []) order)) (map (λ r. params ∷ r ∷ []) found) ≡ outs_of found
outs_are params [] = refl
outs_are params (r ∷ rs) = ap (λ os. (column r 1 ∷ column r 2 ∷ [], column r 1 ∷ column r 2 ∷ column r 3 ∷ []) ∷ os) (outs_are params rs)

outs_shaped : (found : List Row) → AllByRecursion IsUndoRow found → AllByRecursion IsOut (outs_of found)
outs_shaped [] all = tt
outs_shaped (r ∷ rs) all = ((all.0.1, all.0.2, column all.0.3 0, ap (λ r. (column r 1 ∷ column r 2 ∷ [], column r 1 ∷ column r 2 ∷ column r 3 ∷ [])) all.0.4), outs_shaped rs all.1)

outs_pairs : (found : List Row) → map out_of (outs_of found) ≡ map row_of found
outs_pairs [] = refl
outs_pairs (r ∷ rs) = ap (λ es. row_of r ∷ es) (outs_pairs rs)

shown_pairs : (os : List Output) → map shown_row (map (λ (o : Output). o.1) os) ≡ map out_of os
shown_pairs [] = refl
shown_pairs (o ∷ os) = ap (λ es. out_of o ∷ es) (shown_pairs os)

first_value : (rs : List Row) → option_map (λ (e : Entry). e.1) (slice_get (map row_of rs) 0) ≡ option_map before_of (slice_get rs 0)
first_value [] = refl
first_value (r ∷ rs) = refl

flip_le : {X : Type 0} (b : Bool) (x y : X) → cond (not b) x y ≡ cond b y x
flip_le true x y = refl
flip_le false x y = refl

pub record ShowsAbove (version : ℕ) (rows : List Row) (shown : List Row) : Type 0 where
  pub rows_at : (p : Place) → find place_cmp p (map shown_row shown) ≡ cond (nat_le p.0 version) None (before_in rows p)
  pub ordered : IsSorted newest_first (map shown_row shown)

pub shows_above : (old new : State) (version : ℕ) (shown : List Row) → IsLaidOut old.now → Shown above_text (Int (pos version) ∷ []) old new shown → ShowsAbove version (old.now.trees 2) shown
shows_above old new version shown laid h =
    let params = Int (pos version) ∷ [] in
    let db = overlay old.now.trees [] in
    let rows = old.now.trees 2 in
    let test = λ (p : Place). not (nat_le p.0 version) in
    let q = sorted_query 2 is_above (col 1 1 ∷ col 1 2 ∷ col 1 3 ∷ []) order in
    let found = filter (λ r. test (place_of r)) rows in
    let a = (reads_as above_text params old new schema laid.schema _ above_is above_plain above_unlisted shown h).answer Null in
    let e = found_where IsUndoRow (λ r. test (place_of r)) is_above Null params db (λ r shape. where_above r version shape) rows laid.undo.shaped in
    let kept : a.kept ≡ outs_of found = a.distinct ∙ ap (map (output q)) (a.grouped ∙ e) ∙ outs_are params found in
    let same : IsPermutation (outs_of found) a.ordered = subst (λ k. IsPermutation k a.ordered) kept a.same in
    let outs = all-permutation IsOut _ _ same (outs_shaped found (all-filter IsUndoRow _ rows laid.undo.shaped)) in
    let es = map out_of a.ordered in
    let pairs : IsPermutation (map row_of found) es = subst (λ xs. IsPermutation xs es) (outs_pairs found) (IsPermutation-map out_of _ _ same) in
    let at = λ (p : Place). filter-map (is_entry_at p) row_of found in
    let few = λ (p : Place). subst (λ n. n ≤ 1) (sym (ap length (at p) ∙ map_length row_of _)) (single_in place_of before_of same_place exact_place same_place-comm (λ r. test (place_of r)) rows laid.undo.single p) in
    let same_at = λ (p : Place). no_more _ _ (IsPermutation-filter (is_entry_at p) _ _ pairs) (few p) in
    let is : map shown_row shown ≡ es = ap (map shown_row) a.shown ∙ shown_pairs a.ordered in
    record {
      rows_at = λ p. ap (find place_cmp p) is ∙ first_found p es ∙ ap (λ xs. option_map (λ (e : Entry). e.1) (slice_get xs 0)) (sym (same_at p) ∙ at p) ∙ first_value _
          ∙ retained place_of before_of same_place exact_place same_place-comm test rows p ∙ flip_le (nat_le p.0 version) (before_in rows p) None;
      ordered = subst (IsSorted newest_first) (sym is) (λ k d zero low. sorted_out a.ordered outs a.sorted k d low);
    }

-- one more row
pub one_shown : (rows : List Row) (i : ℕ) (row : Row) (entry : Entry) (done made : List Entry) → i < length rows → row ≡ slice_index_or rows i row → done ≡ map shown_row (take i rows)
    → made ≡ done ++ entry ∷ [] → entry ≡ shown_row row → made ≡ map shown_row (take (i + 1) rows)
one_shown rows i row entry done made within is so_far pushed shows =
    pushed ∙ ap (λ es. es ++ entry ∷ []) so_far ∙ ap (λ e. map shown_row (take i rows) ++ e ∷ []) (shows ∙ ap shown_row is)
    ∙ sym (map-append shown_row (take i rows) (slice_index_or rows i row ∷ [])) ∙ ap (map shown_row) (sym (take_more rows i row within))
