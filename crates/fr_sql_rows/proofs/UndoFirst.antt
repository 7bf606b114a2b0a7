-- What the query of a key's first undo row above a version shows.
use Rattle.std.proofs.Common.{◌≡◌, inl, inr, ap₂, subst₂, suc, zero, ◌≤◌, ◌<◌, ◌+◌, ℕ, pos, length, take, filter, map, slice_get, slice_index_or, option_map, List, [], ◌∷◌, Bool, true, false, ◌&&◌, not, Option, Some, None, refl, sym, ap, subst, ◌∙◌, arith}
use Rattle.std.specs.Prelude.{nat_le}
use Rattle.std.specs.List.{AllByRecursion, list_all}
use Rattle.std.specs.List.Sorted.{IsPermutation, IsSorted}
use Rattle.std.specs.Ordering.{is_eq, is_lt, nat_cmp}
use Rattle.std.specs.declared.cmp.Ordering.{Ordering}
use Rattle.std.specs.declared.cmp.Ordering.TheVariants.{Less, Equal, Greater}
use Rattle.std.specs.Cmp.{ranked, tied_itself}
use Rattle.std.proofs.lemmas.Bool.{and_parts, leb-true, leb-false}
use Rattle.std.proofs.lemmas.List.Sorted.{length_permutation, IsPermutation-sym}
use Rattle.sqlite.specs.declared.types.Value.{Value}
use Rattle.sqlite.specs.declared.types.Value.TheVariants.{Null, Int, Blob}
use Rattle.sqlite.specs.Order.{Row, column}
use Rattle.sqlite.specs.Term.{holds}
use Rattle.sqlite.specs.Ops.{binary}
use Rattle.sqlite.specs.Query.{output, output_cmp, Output}
use Rattle.sqlite.specs.Program.{overlay}
use Rattle.sqlite.specs.State.{State, Shown}
use Rattle.sqlite.proofs.Callers.{reads_as}
use Rattle.sqlite_rules.specs.Lists.{Has}
use Rattle.sqlite_rules.proofs.ListLemmas.{all_has, has_filtered, has_kept}
use Rattle.sqlite_trees.proofs.ListLemmas.{all-permutation}
use Rattle.sqlite_value.proofs.OrderLemmas.{value_cmp-Blob, value_cmp-Int}
use Rattle.fr_base.specs.Bytes.{bytes_total, is_same}
use Rattle.fr_undo.specs.State.{Place}
use Rattle.fr_undo.specs.Undo.{IsFirstAbove}
use Rattle.fr_undo.proofs.UndoLemmas.{place_total}
use Rattle.fr_sql_rows.specs.Schema.{schema}
use Rattle.fr_sql_rows.specs.Connection.{IsLaidOut}
use Rattle.fr_sql_rows.specs.Rows.{AreUndoRows, IsUndoRow, number_in, blob_in, place_of, before_of, is_at_place, before_in}
use Rattle.fr_sql_rows.proofs.TextLemmas.{is_of_key_above, first_query, first_text, first_is, first_plain, first_unlisted}
use Rattle.fr_sql_rows.proofs.ListLemmas.{kept_in}
use Rattle.fr_sql_rows.proofs.QueryLemmas.{truth_both, found_where}
use Rattle.fr_sql_rows.proofs.ReadLemmas.{then_equal}
use Rattle.fr_sql_rows.proofs.KvWrites.{exact_key}
use Rattle.fr_sql_rows.proofs.UndoReads.{int_as_nat}
use Rattle.fr_sql_rows.proofs.UndoWrites.{same_place, exact_place, above_is}

clash : true ≡ false → ⊥
clash h = cc

-- whether an undo row is of a key, and above a version
abbrev is_sought : ℕ → List ℕ → Row → Bool
is_sought t k r = is_same (place_of r).1 k && not (nat_le (place_of r).0 t)

where_sought : (r : Row) (t : ℕ) (k : List ℕ) → IsUndoRow r → list_all (holds ((Blob k ∷ Int (pos t) ∷ []) ∷ r ∷ [])) is_of_key_above ≡ is_sought t k r
unfolding binary
where_sought r t k (id, version, key, before, is) = rw (is, value_cmp-Blob key k, value_cmp-Int (pos version) (pos t)) (truth_both _ _ ∙ ap (λ b. is_same key k && b) (above_is version t))

-- ---- rows at places

not_above : (w t : ℕ) → t < w → not (nat_le w t) ≡ true
not_above w t lt = go (nat_le w t) refl
  where
    go : (b : Bool) → nat_le w t ≡ b → not (nat_le w t) ≡ true
    go true e = absurd (let le = leb-true w t e in omega arith)
    go false e = ap not e

-- a row at a place of the key above the version is sought
sought_at : (r : Row) (t w : ℕ) (k : List ℕ) → t < w → is_at_place (w, k) r ≡ true → is_sought t k r ≡ true
sought_at r t w k lt at =
    let is : place_of r ≡ (w, k) = exact_place (place_of r) (w, k) at in
    ap (λ (p : Place). is_same p.1 k && not (nat_le p.0 t)) is ∙ ap₂ (λ a b. a && b) (ap is_eq (tied_itself bytes_total k)) (not_above w t lt)

none_sought : (rows : List Row) (t w : ℕ) (k : List ℕ) → t < w → filter (is_sought t k) rows ≡ [] → filter (is_at_place (w, k)) rows ≡ []
none_sought rows t w k lt none = sym (kept_in (is_at_place (w, k)) (is_sought t k) (λ r at. sought_at r t w k lt at) rows) ∙ ap (filter (is_at_place (w, k))) none

-- ---- what is sorted and shown

abbrev out_of : Row → Output
out_of r = (column r 1 ∷ [], column r 3 ∷ [])

outs_are : (params : Row) (found : List Row) → map (output first_query) (map (λ r. params ∷ r ∷ []) found) ≡ map out_of found
outs_are params [] = refl
outs_are params (r ∷ rs) = ap (λ os. out_of r ∷ os) (outs_are params rs)

abbrev number : Output → ℕ
number o = number_in (column o.0 0)

abbrev IsOut : Output → Type 0
IsOut o = (v : ℕ) × (b : Value) × (o ≡ (Int (pos v) ∷ [], b ∷ []))

abbrev ordered_by : Output → Output → Ordering
ordered_by = output_cmp first_query

at_most : (v w : ℕ) → is_lt (nat_cmp w v) ≡ false → v ≤ w
at_most v w e = go (nat_cmp w v) refl
  where
    go : (r : Ordering) → nat_cmp w v ≡ r → v ≤ w
    go Less t = absurd (clash (sym (ap is_lt t) ∙ e))
    go Equal t = let is : w ≡ v = ranked w v Equal (sym t) in omega arith
    go Greater t = let lt : v < w = ranked w v Greater (sym t) in omega arith

ordered_as : (v w : ℕ) (b c : Value) → ordered_by (Int (pos w) ∷ [], c ∷ []) (Int (pos v) ∷ [], b ∷ []) ≡ nat_cmp w v
ordered_as v w b c = rw (value_cmp-Int (pos w) (pos v), int_as_nat w v) (then_equal (nat_cmp w v))

not_later : (o p : Output) → IsOut o → IsOut p → is_lt (ordered_by p o) ≡ false → number o ≤ number p
not_later o p (v, b, is) (w, c, at) low =
    let le = at_most v w (sym (ap is_lt (ap₂ ordered_by at is ∙ ordered_as v w b c)) ∙ low) in
    subst₂ (λ m n. m ≤ n) (sym (ap number is)) (sym (ap number at)) le

weaker : (m n : ℕ) → m ≤ n → (os : List Output) → AllByRecursion (λ p. n ≤ number p) os → AllByRecursion (λ p. m ≤ number p) os
weaker m n le [] all = tt
weaker m n le (o ∷ os) all = (let first = all.0 in omega arith, weaker m n le os all.1)

-- the first is at the least version
head_least : (o : Output) (os : List Output) → AllByRecursion IsOut (o ∷ os) → IsSorted ordered_by (o ∷ os) → AllByRecursion (λ p. number o ≤ number p) (o ∷ os)
head_least o [] outs sorted = (omega arith, tt)
head_least o (p ∷ os) outs sorted =
    (omega arith, weaker (number o) (number p) (not_later o p outs.0 outs.1.0 (sorted 0 o (omega arith) (omega arith))) (p ∷ os) (head_least p os outs.1 (λ k d low high. shifted k d (sorted (k + 1) d (omega arith) (omega (arith, high))))))
  where
    shifted : (k : ℕ) (d : Output) → is_lt (ordered_by (slice_index_or (o ∷ p ∷ os) (k + 1 + 1) d) (slice_index_or (o ∷ p ∷ os) (k + 1) d)) ≡ false
        → is_lt (ordered_by (slice_index_or (p ∷ os) (k + 1) d) (slice_index_or (p ∷ os) k d)) ≡ false
    shifted k d h =
        let one : k + 1 ≡ suc k = omega arith in
        let two : k + 1 + 1 ≡ suc (k + 1) = omega arith in
        subst₂ (λ i j. is_lt (ordered_by (slice_index_or (o ∷ p ∷ os) i d) (slice_index_or (o ∷ p ∷ os) j d)) ≡ false) two one h

-- ---- the rows that are sought

module _ (rows : List Row) (all : AreUndoRows rows) (t : ℕ) (k : List ℕ) where
  abbrev found : List Row
  found = filter (is_sought t k) rows

  -- what is shown of a row that is sought: what the key held before a version above t
  abbrev IsFound : Output → Type 0
  IsFound o = (v : ℕ) × (b : Value) × (o ≡ (Int (pos v) ∷ [], b ∷ [])) × (t < v) × (before_in rows (v, k) ≡ Some (blob_in b))

  single_is : (xs : List Row) (r : Row) → Has xs r → length xs ≤ 1 → xs ≡ r ∷ []
  single_is [] r has few = absurd has
  single_is (x ∷ []) r (inl is) few = ap (λ y. y ∷ []) (sym is)
  single_is (x ∷ []) r (inr has) few = absurd has
  single_is (x ∷ y ∷ xs) r has few = absurd (omega (arith, few))

  above_from : (v : ℕ) → not (nat_le v t) ≡ true → t < v
  above_from v e = go (nat_le v t) refl
    where
      go : (b : Bool) → nat_le v t ≡ b → t < v
      go true f = absurd (let no = rw f at e in cc)
      go false f = leb-false v t f

  shows : (r : Row) → Has found r → IsFound (out_of r)
  shows r has =
      let both = has_filtered (is_sought t k) rows r has in
      let shape = all_has IsUndoRow rows r all.shaped both.0 in
      let parts = and_parts _ _ both.1 in
      let is : place_of r ≡ (shape.1, shape.2) = ap place_of shape.4 in
      let key : shape.2 ≡ k = exact_key shape.2 k (ap (λ (p : Place). is_same p.1 k) (sym is) ∙ parts.0) in
      let at : place_of r ≡ (shape.1, k) = is ∙ ap (λ (q : List ℕ). (shape.1, q)) key in
      let one : filter (is_at_place (shape.1, k)) rows ≡ r ∷ [] = single_is (filter (is_at_place (shape.1, k)) rows) r (has_kept (is_at_place (shape.1, k)) rows r both.0 (ap (λ (p : Place). same_place p (shape.1, k)) at ∙ ap is_eq (tied_itself place_total (shape.1, k)))) (all.single (shape.1, k)) in (
        shape.1,
        column r 3,
        ap (λ (v : Value). (v ∷ [], column r 3 ∷ [])) (ap (λ (x : Row). column x 1) shape.4),
        above_from shape.1 (ap (λ (p : Place). not (nat_le p.0 t)) (sym at) ∙ parts.1),
        ap (λ rs. option_map before_of (slice_get rs 0)) one,
      )

  all_map : (P : Output → Type 0) (rs : List Row) → ((r : Row) → Has rs r → P (out_of r)) → AllByRecursion P (map out_of rs)
  all_map P [] f = tt
  all_map P (r ∷ rs) f = (f r (inl refl), all_map P rs (λ x has. f x (inr has)))

  map_all : (P : Output → Type 0) (rs : List Row) → AllByRecursion P (map out_of rs) → (r : Row) → Has rs r → P (out_of r)
  map_all P [] all r has = absurd has
  map_all P (x ∷ rs) all r (inl is) = subst (λ (y : Row). P (out_of y)) (sym is) all.0
  map_all P (x ∷ rs) all r (inr has) = map_all P rs all.1 r has

  -- no row of the key is between t and the least version found
  none_between : (n : ℕ) → AllByRecursion (λ p. n ≤ number p) (map out_of found) → (w : ℕ) → t < w → w < n → before_in rows (w, k) ≡ None
  none_between n least w above below = go (filter (is_at_place (w, k)) rows) refl
    where
      go : (fs : List Row) → filter (is_at_place (w, k)) rows ≡ fs → option_map before_of (slice_get (filter (is_at_place (w, k)) rows) 0) ≡ None
      go [] e = ap (λ rs. option_map before_of (slice_get rs 0)) e
      go (r ∷ fs) e =
          let both = has_filtered (is_at_place (w, k)) rows r (subst (λ xs. Has xs r) (sym e) (inl refl)) in
          let has = has_kept (is_sought t k) rows r both.0 (sought_at r t w k above both.1) in
          let le = map_all (λ p. n ≤ number p) found least r has in
          let is : number (out_of r) ≡ w = ap (λ (p : Place). p.0) (exact_place (place_of r) (w, k) both.1) in
          absurd (omega arith)

  outs_from : (os : List Output) → AllByRecursion IsFound os → AllByRecursion IsOut os
  outs_from [] h = tt
  outs_from (o ∷ os) h = ((h.0.0, h.0.1, h.0.2), outs_from os h.1)

  none_left : (rs : List Row) → length (map out_of rs) ≡ 0 → rs ≡ []
  none_left [] e = refl
  none_left (r ∷ rs) e = absurd (omega arith)

  first_of : (ordered : List Output) → IsPermutation (map out_of found) ordered → IsSorted ordered_by ordered
      → IsFirstAbove (λ w. before_in rows (w, k)) t (option_map (λ (o : Output). blob_in (column o.1 0)) (slice_get ordered 0))
  first_of [] same sorted =
      λ w above. ap (λ rs. option_map before_of (slice_get rs 0)) (none_sought rows t w k above (none_left found (sym (length_permutation (map out_of found) [] same))))
  first_of (o ∷ os) same sorted =
      let founds = all-permutation IsFound _ _ same (all_map IsFound found shows) in
      let least = head_least o os (outs_from (o ∷ os) founds) sorted in
      let back = all-permutation (λ p. number o ≤ number p) _ _ (IsPermutation-sym _ _ same) least in
      let h = founds.0 in
      let is : number o ≡ h.0 = ap number h.2 in
      let held : blob_in (column o.1 0) ≡ blob_in h.1 = ap (λ (p : Output). blob_in (column p.1 0)) h.2 in
      (h.0, h.3, h.4 ∙ ap Some (sym held), λ w above below. none_between (number o) back w above (omega arith))

-- one row is shown, the first
one_of : (ordered : List Output) (shown : List Row) → shown ≡ take 1 (map (λ (o : Output). o.1) ordered)
    → option_map (λ (r : Row). blob_in (column r 0)) (slice_get shown 0) ≡ option_map (λ (o : Output). blob_in (column o.1 0)) (slice_get ordered 0)
one_of [] shown is = ap (λ rs. option_map (λ (r : Row). blob_in (column r 0)) (slice_get rs 0)) is
one_of (o ∷ os) shown is = ap (λ rs. option_map (λ (r : Row). blob_in (column r 0)) (slice_get rs 0)) is

pub first_shown : (old new : State) (t : ℕ) (k : List ℕ) (shown : List Row) → IsLaidOut old.now → Shown first_text (Blob k ∷ Int (pos t) ∷ []) old new shown
    → IsFirstAbove (λ w. before_in (old.now.trees 2) (w, k)) t (option_map (λ (r : Row). blob_in (column r 0)) (slice_get shown 0))
first_shown old new t k shown laid h =
    let params = Blob k ∷ Int (pos t) ∷ [] in
    let db = overlay old.now.trees [] in
    let rows = old.now.trees 2 in
    let a = (reads_as first_text params old new schema laid.schema _ first_is first_plain first_unlisted shown h).answer Null in
    let e = found_where IsUndoRow (is_sought t k) is_of_key_above Null params db (λ r shape. where_sought r t k shape) rows laid.undo.shaped in
    let kept : a.kept ≡ map out_of (filter (is_sought t k) rows) = a.distinct ∙ ap (map (output first_query)) (a.grouped ∙ e) ∙ outs_are params (filter (is_sought t k) rows) in
    let same = subst (λ l. IsPermutation l a.ordered) kept a.same in
    subst (IsFirstAbove (λ w. before_in rows (w, k)) t) (sym (one_of a.ordered shown a.shown)) (first_of rows laid.undo t k a.ordered same a.sorted)
