-- What a query with ORDER BY shows of the keys.
use Rattle.std.proofs.Common.{◌≡◌, ap₂, subst₂, suc, ◌≤◌, ◌+◌, ℕ, length, filter, map, slice_get, slice_index_or, option_map, List, [], ◌∷◌, Bool, true, false, cond, None, refl, sym, ap, subst, ◌∙◌, arith}
use Rattle.std.specs.Prelude.{T}
use Rattle.std.specs.List.{AllByRecursion, list_any}
use Rattle.std.specs.List.Sorted.{IsPermutation, IsSorted}
use Rattle.std.specs.declared.cmp.Ordering.{Ordering}
use Rattle.std.specs.declared.cmp.Ordering.TheVariants.{Less, Equal, Greater}
use Rattle.std.specs.Ordering.{is_eq, is_lt, eq_by_cmp, ordering_then, ordering_reverse}
use Rattle.std.specs.FinMap.{find, is_sorted, from_sorted, get-from_sorted, entries-from_sorted, get-retain_keys, same_map, retain_keys, entries, get}
use Rattle.std.specs.FinMap.Entries.{below_all}
use Rattle.std.proofs.lemmas.Cmp.{tied_itself}
use Rattle.std.proofs.lemmas.Bool.{and_parts}
use Rattle.std.proofs.lemmas.List.Sorted.{IsPermutation-map, length_permutation}
use Rattle.sqlite.specs.declared.types.Value.TheVariants.{Null, Blob}
use Rattle.sqlite.specs.Order.{Row, column}
use Rattle.sqlite.specs.Term.{Term, col}
use Rattle.sqlite.specs.Query.{inner, end, matches_as, IsSureAnswer, output, output_cmp, Output}
use Rattle.sqlite.specs.Tree.{Trees}
use Rattle.sqlite.proofs.Callers.{one_permutation}
use Rattle.sqlite_trees.proofs.ListLemmas.{IsPermutation-filter, all-permutation, filter-map, all-filter}
use Rattle.sqlite_value.proofs.OrderLemmas.{value_cmp-Blob}
use Rattle.fr_base.specs.Bytes.{bytes_cmp, bytes_total, bytes_exact, is_same}
use Rattle.fr_base.proofs.MapLemmas.{get-map_by-all, is_same-comm}
use Rattle.fr_sql_rows.specs.Rows.{IsKvRow, AreKvRows, key_of, value_of, is_at_key, value_in, contents_in, pair_of}
use Rattle.fr_sql_rows.proofs.TextLemmas.{sorted_query, up}
use Rattle.fr_sql_rows.proofs.TableLemmas.{retained, single_in}
use Rattle.fr_sql_rows.proofs.ListLemmas.{map_length}
use Rattle.fr_sql_rows.proofs.KvWrites.{exact_key}

-- ---- the contents

none_at : (q : List ℕ) (rows : List Row) → list_any (eq_by_cmp bytes_cmp q) (map key_of rows) ≡ false → filter (is_at_key q) rows ≡ []
none_at q [] none = refl
none_at q (r ∷ rows) none = go (eq_by_cmp bytes_cmp q (key_of r)) refl (λ e. none_at q rows (rw e at none))
  where
    go : (d : Bool) → eq_by_cmp bytes_cmp q (key_of r) ≡ d → (eq_by_cmp bytes_cmp q (key_of r) ≡ false → filter (is_at_key q) rows ≡ []) → filter (is_at_key q) (r ∷ rows) ≡ []
    go true f more = absurd (let clash = rw f at none in cc)
    go false f more =
        let apart : is_at_key q r ≡ false = is_same-comm (key_of r) q ∙ f in
        rw apart (more f)

-- the contents have at each key the value that its row has
pub get_contents : (rows : List Row) (q : List ℕ) → get (contents_in rows) q ≡ value_in rows q
get_contents rows = get-map_by-all bytes_total bytes_exact (value_in rows) (map key_of rows) (λ q none. ap (λ rs. option_map value_of (slice_get rs 0)) (none_at q rows none))

-- ---- entries in order

abbrev Entry : Type 0
Entry = List ℕ × List ℕ

abbrev is_entry_at : List ℕ → Entry → Bool
is_entry_at q e = is_same e.0 q

first_found : (q : List ℕ) (es : List Entry) → find bytes_cmp q es ≡ option_map (λ (e : Entry). e.1) (slice_get (filter (is_entry_at q) es) 0)
first_found q [] = refl
first_found q (e ∷ es) = go (is_same e.0 q) refl (first_found q es)
  where
    go : (b : Bool) → is_same e.0 q ≡ b → find bytes_cmp q es ≡ option_map (λ (e : Entry). e.1) (slice_get (filter (is_entry_at q) es) 0)
        → find bytes_cmp q (e ∷ es) ≡ option_map (λ (e : Entry). e.1) (slice_get (filter (is_entry_at q) (e ∷ es)) 0)
    go true h more = let back : eq_by_cmp bytes_cmp q e.0 ≡ true = is_same-comm q e.0 ∙ h in rw (h, back) refl
    go false h more = let back : eq_by_cmp bytes_cmp q e.0 ≡ false = is_same-comm q e.0 ∙ h in rw (h, back) more

abbrev out_of : Output → Entry
out_of o = pair_of o.1

-- a key and then, as it is shown, the key and its value
abbrev IsOut : Output → Type 0
IsOut o = (k : List ℕ) × (v : List ℕ) × (o ≡ (Blob k ∷ [], Blob k ∷ Blob v ∷ []))

abbrev ordered_by : Output → Output → Ordering
ordered_by = output_cmp (sorted_query 0 [] [] ((col 1 1, up) ∷ []))

pub then_equal : (o : Ordering) → ordering_then o Equal ≡ o
then_equal Less = refl
then_equal Equal = refl
then_equal Greater = refl

below_more : (x y : List ℕ) (es : List Entry) → bytes_cmp x y ≡ Less → below_all bytes_cmp y es ≡ true → below_all bytes_cmp x es ≡ true
below_more x y [] less h = refl
below_more x y (e ∷ es) less h =
    let parts = and_parts _ _ h in
    let step : bytes_cmp x e.0 ≡ Less = bytes_total.trans x y e.0 less (lower (bytes_cmp y e.0) parts.0) in
    rw step (below_more x y es less parts.1)
  where
    lower : (o : Ordering) → is_lt o ≡ true → o ≡ Less
    lower Less h = refl
    lower Equal h = absurd cc
    lower Greater h = absurd cc

-- of two keys in order that are not one, the first is less
comes_first : (a b : List ℕ) → is_lt (bytes_cmp b a) ≡ false → is_same a b ≡ false → bytes_cmp a b ≡ Less
comes_first a b low apart = go (bytes_cmp a b) refl
  where
    go : (o : Ordering) → bytes_cmp a b ≡ o → bytes_cmp a b ≡ Less
    go Less e = e
    go Equal e = absurd (let clash = sym apart ∙ ap is_eq e in cc)
    go Greater e = absurd (let clash = sym low ∙ ap is_lt (bytes_total.antisymm b a ∙ ap ordering_reverse e) in cc)

strict : (os : List Output) → AllByRecursion IsOut os → IsSorted ordered_by os → ((q : List ℕ) → length (filter (is_entry_at q) (map out_of os)) ≤ 1) → is_sorted bytes_cmp (map out_of os) ≡ true
strict [] outs sorted single = refl
strict (o ∷ []) outs sorted single = refl
strict (o ∷ p ∷ os) outs sorted single =
    let a = outs.0.0 in
    let b = outs.1.0.0 in
    let rest : is_sorted bytes_cmp (map out_of (p ∷ os)) ≡ true =
    strict (p ∷ os) outs.1 (λ k d low high. shifted k d (sorted (k + 1) d (omega arith) (omega (arith, high)))) (λ q. fewer q (single q)) in
    let first : is_lt (ordered_by p o) ≡ false = sorted 0 o (omega arith) (omega arith) in
    let low : is_lt (bytes_cmp b a) ≡ false =
    ap is_lt (sym (then_equal (bytes_cmp b a)) ∙ sym (ap (λ c. ordering_then c Equal) (value_cmp-Blob b a))) ∙ ap is_lt (sym (ap₂ ordered_by outs.1.0.2 outs.0.2)) ∙ first in
    let less : bytes_cmp a b ≡ Less = comes_first a b low (apart a b (ap (λ x. (out_of x).0) outs.0.2) (ap (λ x. (out_of x).0) outs.1.0.2)) in
    let parts = and_parts _ _ rest in
    let both : bytes_cmp (out_of o).0 (out_of p).0 ≡ Less = ap₂ bytes_cmp (ap (λ x. (out_of x).0) outs.0.2) (ap (λ x. (out_of x).0) outs.1.0.2) ∙ less in
    let below : below_all bytes_cmp (out_of o).0 (map out_of (p ∷ os)) ≡ true = rw both (below_more (out_of o).0 (out_of p).0 (map out_of os) both parts.0) in
    rw (below, rest) refl
  where
    shifted : (k : ℕ) (d : Output) → is_lt (ordered_by (slice_index_or (o ∷ p ∷ os) (k + 1 + 1) d) (slice_index_or (o ∷ p ∷ os) (k + 1) d)) ≡ false
        → is_lt (ordered_by (slice_index_or (p ∷ os) (k + 1) d) (slice_index_or (p ∷ os) k d)) ≡ false
    shifted k d h =
        let one : k + 1 ≡ suc k = omega arith in
        let two : k + 1 + 1 ≡ suc (k + 1) = omega arith in
        subst₂ (λ i j. is_lt (ordered_by (slice_index_or (o ∷ p ∷ os) i d) (slice_index_or (o ∷ p ∷ os) j d)) ≡ false) two one h

    fewer : (q : List ℕ) → length (filter (is_entry_at q) (map out_of (o ∷ p ∷ os))) ≤ 1 → length (filter (is_entry_at q) (map out_of (p ∷ os))) ≤ 1
    fewer q h = go (is_entry_at q (out_of o)) refl
      where
        go : (t : Bool) → is_entry_at q (out_of o) ≡ t → length (filter (is_entry_at q) (map out_of (p ∷ os))) ≤ 1
        go true e = let more = rw e at h in omega (arith, more)
        go false e = rw e at h

    apart : (a b : List ℕ) → (out_of o).0 ≡ a → (out_of p).0 ≡ b → is_same a b ≡ false
    apart a b e f = go (is_same a b) refl
      where
        go : (t : Bool) → is_same a b ≡ t → is_same a b ≡ false
        go false h = h
        go true h =
            let one : is_entry_at b (out_of o) ≡ true = ap (λ k. is_same k b) e ∙ h in
            let two : is_entry_at b (out_of p) ≡ true = ap (λ k. is_same k b) f ∙ ap is_eq (tied_itself bytes_total b) in
            absurd (let many = rw (one, two) at (single b) in omega (arith, many))

-- ---- the answer

none_more : {X : Type 0} (ys : List X) → IsPermutation [] ys → [] ≡ ys
none_more [] h = refl
none_more (y ∷ ys) h = absurd (let e = length_permutation [] (y ∷ ys) h in cc)

pub no_more : {X : Type 0} (xs ys : List X) → IsPermutation xs ys → length xs ≤ 1 → xs ≡ ys
no_more [] ys same few = none_more ys same
no_more (x ∷ []) ys same few = sym (one_permutation x ys same)
no_more (x ∷ y ∷ xs) ys same few = absurd (omega (arith, few))

abbrev kv_of : Row → Entry
kv_of r = (key_of r, value_of r)

-- what a query that shows keys and values found in rows, with what each is sorted by
abbrev outs_of : Row → List Row → List Output
outs_of params found = map (λ r. (column r 1 ∷ [], column r 1 ∷ column r 2 ∷ [])) found

outs_are : (filter : List Term) (params : Row) (found : List Row)
    → map (output (sorted_query 0 filter (col 1 1 ∷ col 1 2 ∷ []) ((col 1 1, up) ∷ []))) (map (λ r. params ∷ r ∷ []) found) ≡ outs_of params found
outs_are filter params [] = refl
outs_are filter params (r ∷ rs) = ap (λ os. (column r 1 ∷ [], column r 1 ∷ column r 2 ∷ []) ∷ os) (outs_are filter params rs)

outs_shaped : (params : Row) (found : List Row) → AllByRecursion IsKvRow found → AllByRecursion IsOut (outs_of params found)
outs_shaped params [] all = tt
outs_shaped params (r ∷ rs) all = ((all.0.1, all.0.2, ap (λ r. (column r 1 ∷ [], column r 1 ∷ column r 2 ∷ [])) all.0.3), outs_shaped params rs all.1)

outs_pairs : (params : Row) (found : List Row) → map out_of (outs_of params found) ≡ map kv_of found
outs_pairs params [] = refl
outs_pairs params (r ∷ rs) = ap (λ es. kv_of r ∷ es) (outs_pairs params rs)

shown_pairs : (os : List Output) → map pair_of (map (λ (o : Output). o.1) os) ≡ map out_of os
shown_pairs [] = refl
shown_pairs (o ∷ os) = ap (λ es. out_of o ∷ es) (shown_pairs os)

first_value : (rs : List Row) → option_map (λ (e : Entry). e.1) (slice_get (map kv_of rs) 0) ≡ option_map value_of (slice_get rs 0)
first_value [] = refl
first_value (r ∷ rs) = refl

true_is : (b : Bool) → b ≡ true → T b
true_is true e = tt
true_is false e = absurd cc

-- the keys that pass a test, with their values, in order
pub sorted_entries : (filter_terms : List Term) (db : Trees) (params : Row) (rows shown : List Row) (test : List ℕ → Bool) → AreKvRows rows
    → matches_as Null db filter_terms (inner 0 end) (params ∷ []) ≡ map (λ r. params ∷ r ∷ []) (filter (λ r. test (key_of r)) rows)
    → IsSureAnswer (sorted_query 0 filter_terms (col 1 1 ∷ col 1 2 ∷ []) ((col 1 1, up) ∷ [])) db params shown → map pair_of shown ≡ entries (retain_keys (contents_in rows) test)
sorted_entries filter_terms db params rows shown test all e h =
    let q = sorted_query 0 filter_terms (col 1 1 ∷ col 1 2 ∷ []) ((col 1 1, up) ∷ []) in
    let found = filter (λ r. test (key_of r)) rows in
    let a = h Null in
    let kept : a.kept ≡ outs_of params found = a.distinct ∙ ap (map (output q)) (a.grouped ∙ e) ∙ outs_are filter_terms params found in
    let same : IsPermutation (outs_of params found) a.ordered = subst (λ k. IsPermutation k a.ordered) kept a.same in
    let outs = all-permutation IsOut _ _ same (outs_shaped params found (all-filter IsKvRow _ rows all.shaped)) in
    let es = map out_of a.ordered in
    let pairs : IsPermutation (map kv_of found) es = subst (λ xs. IsPermutation xs es) (outs_pairs params found) (IsPermutation-map out_of _ _ same) in
    let at = λ (k : List ℕ). filter-map (is_entry_at k) kv_of found in
    let few = λ (k : List ℕ). subst (λ n. n ≤ 1) (sym (ap length (at k) ∙ map_length kv_of _)) (single_in key_of value_of is_same exact_key is_same-comm (λ r. test (key_of r)) rows all.single k) in
    let same_at = λ (k : List ℕ). no_more _ _ (IsPermutation-filter (is_entry_at k) _ _ pairs) (few k) in
    let rises : T (is_sorted bytes_cmp es) = true_is _ (strict a.ordered outs a.sorted (λ k. subst (λ xs. length xs ≤ 1) (same_at k) (few k))) in
    let values = λ (k : List ℕ).
    get-from_sorted bytes_cmp es k rises ∙ first_found k es ∙ ap (λ xs. option_map (λ (e : Entry). e.1) (slice_get xs 0)) (sym (same_at k) ∙ at k) ∙ first_value _
    ∙ retained key_of value_of is_same exact_key is_same-comm test rows k ∙ ap (λ v. cond (test k) v None) (sym (get_contents rows k))
    ∙ sym (get-retain_keys (contents_in rows) test k (λ x tie. ap test (sym (bytes_exact k x tie)))) in
    ap (map pair_of) a.shown ∙ shown_pairs a.ordered ∙ sym (entries-from_sorted bytes_cmp es rises) ∙ ap entries (same_map bytes_total bytes_exact (from_sorted es) (retain_keys (contents_in rows) test) values)
