-- Undo rows listed by key.
use Rattle.std.proofs.Common.{◌≡◌, ◌⊎◌, inl, inr, ℕ, zero, suc, ◌+◌, ◌-◌, ◌<◌, ◌≤◌, Bool, true, false, not, cond, ◌&&◌, List, [], ◌∷◌, ◌++◌, take, drop, length, Option, None, Some, IsSome, IfSome, refl, sym, ap, ◌∙◌, subst, arith}
use Rattle.std.specs.Prelude.{◌==◌, is_some, nat_lt, slice_get, slice_index_or, unwrap_or}
use Rattle.std.specs.declared.cmp.Ordering.{Ordering}
use Rattle.std.specs.declared.cmp.Ordering.TheVariants.{Less, Equal, Greater}
use Rattle.std.specs.declared.ops.Bound.TheVariants.{Included, Unbounded}
use Rattle.std.specs.Option.{option_or}
use Rattle.std.specs.Ordering.{is_eq, is_gt, is_le, is_lt, nat_cmp, ordering_then, ordering_reverse}
use Rattle.std.specs.Cmp.{nat_cmp_total, ranked, tied_itself, eq_by_cmp_equiv, unsigned_Decides}
use Rattle.std.specs.List.{AllByRecursion, slice_range}
use Rattle.std.specs.List.Sorted.{IsPartitionedBy, IsStrictlySortedBy}
use Rattle.std.specs.Map.{keys_of}
use Rattle.std.specs.FinMap.{get}
use Rattle.std.specs.BTreeSet.{BTreeSet, IsKeyRangeOf, IsKeyInRange, contains}
use Rattle.std.specs.BTreeMap.{is_at}
use Rattle.std.proofs.lemmas.Bool.{ltb-true, ltb-false}
use Rattle.std.proofs.lemmas.Map.Keys.{sorted_head, sorted_tail}
use Rattle.std.proofs.lemmas.List.{take-append-drop, take_all, length-drop}
use Rattle.fr_base.specs.Bytes.{bytes_cmp, bytes_total, bytes_exact}
use Rattle.fr_base.proofs.MapLemmas.{one_key, none_below}
use Rattle.fr_undo.specs.State.{Place, place_cmp, UndoRows}
use Rattle.fr_undo.specs.Changes.{row_made}
use Rattle.fr_undo.specs.Undo.{before_if_changed, least_row, IsFirstAbove}
use Rattle.fr_undo.specs.Rows.{RowList, row_in, map_of_rows, rows_beyond, rows_from, IsInOrder, AreThrough}
use Rattle.fr_undo.specs.declared.index.RowIndex.{RowIndex}
use Rattle.fr_undo.specs.Index.{by_key, is_listed, IsIndex, IsLeastAbove}
use Rattle.fr_undo.proofs.UndoLemmas.{place_total, place_exact, least_row-none}
use Rattle.fr_undo.proofs.RowLemmas.{option_or_none}
use Rattle.fr_undo.proofs.ListRows.{get-map_of_rows, row_in-append, row_in-filter, order-filter, at_place, all-passing}

clash : true ≡ false → ⊥
clash h = cc

-- ---- places by key and by version are the same places

is_eq_then : (r s : Ordering) → is_eq (ordering_then r s) ≡ (is_eq r && is_eq s)
is_eq_then Less s = refl
is_eq_then Equal s = refl
is_eq_then Greater s = refl

and_turned : (a b : Bool) → (a && b) ≡ (b && a)
and_turned true true = refl
and_turned true false = refl
and_turned false true = refl
and_turned false false = refl

pub turned : (p : Place) (q : List ℕ) (w : ℕ) → is_eq (by_key (p.1, p.0) (q, w)) ≡ is_at (place_cmp (w, q)) p
turned p q w =
    is_eq_then (bytes_cmp p.1 q) (nat_cmp p.0 w)
    ∙ and_turned (is_eq (bytes_cmp p.1 q)) (is_eq (nat_cmp p.0 w))
    ∙ (λ i. (eq_by_cmp_equiv nat_cmp_total).symm p.0 w i && (eq_by_cmp_equiv bytes_total).symm p.1 q i)
    ∙ sym (is_eq_then (nat_cmp w p.0) (bytes_cmp q p.1))

-- ---- one more row is listed

module _ (places places' : BTreeSet (List ℕ × ℕ)) (row : Place × Option (List ℕ)) (listed : (q : List ℕ) (w : ℕ) → is_listed places' q w ≡ cond (is_eq (by_key (row.0.1, row.0.0) (q, w))) true (is_listed places q w)) where
  by_place : (q : List ℕ) (w : ℕ) → is_listed places' q w ≡ cond (is_at (place_cmp (w, q)) row.0) true (is_listed places q w)
  by_place q w = listed q w ∙ ap (λ b. cond b true (is_listed places q w)) (turned row.0 q w)

  either : (b c : Bool) → c ≡ true → cond b true c ≡ true
  either true c h = refl
  either false c h = h

  pub kept_step : (q : List ℕ) (w : ℕ) → is_listed places q w ≡ true → is_listed places' q w ≡ true
  kept_step q w h = by_place q w ∙ either (is_at (place_cmp (w, q)) row.0) (is_listed places q w) h

  -- a row of those that are left is listed, or left still
  pub all_step : (rest rest' : RowList) → rest ≡ row ∷ rest' → (w : ℕ) (q : List ℕ) → IsSome (row_in rest (w, q)) → (is_listed places' q w ≡ true) ⊎ IsSome (row_in rest' (w, q))
  all_step rest rest' is w q some =
      from (is_at (place_cmp (w, q)) row.0) refl
    where
      here : IsSome (cond (is_at (place_cmp (w, q)) row.0) (Some row.1) (row_in rest' (w, q)))
      here = subst (λ (l : RowList). IsSome (row_in l (w, q))) is some

      from : (b : Bool) → is_at (place_cmp (w, q)) row.0 ≡ b → (is_listed places' q w ≡ true) ⊎ IsSome (row_in rest' (w, q))
      from true e = inl (by_place q w ∙ ap (λ b. cond b true (is_listed places q w)) e)
      from false e = inr (subst (λ b. IsSome (cond b (Some row.1) (row_in rest' (w, q)))) e here)

  -- what is listed is among rows of which it is one
  pub only_step : (rows : RowList) → ((w : ℕ) (q : List ℕ) → is_listed places q w ≡ true → IsSome (row_in rows (w, q))) → ((w : ℕ) (q : List ℕ) → is_at (place_cmp (w, q)) row.0 ≡ true → IsSome (row_in rows (w, q)))
      → (w : ℕ) (q : List ℕ) → is_listed places' q w ≡ true → IsSome (row_in rows (w, q))
  only_step rows only one w q h = from (is_at (place_cmp (w, q)) row.0) refl
    where
      from : (b : Bool) → is_at (place_cmp (w, q)) row.0 ≡ b → IsSome (row_in rows (w, q))
      from true e = one w q e
      from false e = only w q (sym (ap (λ b. cond b true (is_listed places q w)) e) ∙ sym (by_place q w) ∙ h)

some_or : (a b : Option (Option (List ℕ))) → IsSome b → IsSome (option_or a b)
some_or None b h = h
some_or (Some x) b h = refl

-- a row behind others is one of all
pub behind : (xs ys zs : RowList) → zs ≡ xs ++ ys → (w : ℕ) (q : List ℕ) → IsSome (row_in ys (w, q)) → IsSome (row_in zs (w, q))
behind xs ys zs is w q some = subst (λ (l : RowList). IsSome (row_in l (w, q))) (sym is) (subst IsSome (sym (row_in-append xs ys (w, q))) (some_or (row_in xs (w, q)) (row_in ys (w, q)) some))

-- the first of rows is at its place, and one behind it is one of them
pub first_at : (rest rest' : RowList) (row : Place × Option (List ℕ)) → rest ≡ row ∷ rest' → (w : ℕ) (q : List ℕ) → is_at (place_cmp (w, q)) row.0 ≡ true → IsSome (row_in rest (w, q))
first_at rest rest' row is w q e = subst (λ (l : RowList). IsSome (row_in l (w, q))) (sym is) (ap is_some (ap (λ b. cond b (Some row.1) (row_in rest' (w, q))) e))

-- a row of a part of rows is one of them
pub part_in : (rows : RowList) (a n w : ℕ) (q : List ℕ) → IsSome (row_in (take n (drop a rows)) (w, q)) → IsSome (row_in rows (w, q))
part_in rows a n w q some =
    behind (take a rows) (drop a rows) rows (sym (take-append-drop a rows)) w q
    (subst (λ (l : RowList). IsSome (row_in l (w, q))) (take-append-drop n (drop a rows)) (subst IsSome (sym (row_in-append (take n (drop a rows)) (drop n (drop a rows)) (w, q))) (before (row_in (take n (drop a rows)) (w, q)) _ some)))
  where
    before : (x y : Option (Option (List ℕ))) → IsSome x → IsSome (option_or x y)
    before None y h = absurd (clash (sym h))
    before (Some x) y h = refl

pub later_in : (rest rest' : RowList) (row : Place × Option (List ℕ)) → rest ≡ row ∷ rest' → (w : ℕ) (q : List ℕ) → IsSome (row_in rest' (w, q)) → IsSome (row_in rest (w, q))
later_in rest rest' row is w q some = behind (row ∷ []) rest' rest is w q some

-- ---- the first of a key's versions from one on

not_above : (a b : ℕ) → is_gt (nat_cmp a b) ≡ false → a ≤ b
not_above a b e = from (nat_cmp a b) refl
  where
    from : (r : Ordering) → nat_cmp a b ≡ r → a ≤ b
    from Less t = let lt : a < b = ranked a b Less (sym t) in omega arith
    from Equal t = let is : a ≡ b = ranked a b Equal (sym t) in omega arith
    from Greater t = absurd (clash (sym (ap is_gt t) ∙ e))

at_most : (a b : ℕ) → a ≤ b → is_gt (nat_cmp a b) ≡ false
at_most a b le = from (nat_cmp a b) refl
  where
    from : (r : Ordering) → nat_cmp a b ≡ r → is_gt (nat_cmp a b) ≡ false
    from Less t = ap is_gt t
    from Equal t = ap is_gt t
    from Greater t = absurd (let lt : b < a = ranked a b Greater (sym t) in omega arith)

-- versions of one key compare as versions
one_key_gt : (q : List ℕ) (a b : ℕ) → is_gt (by_key (q, a) (q, b)) ≡ is_gt (nat_cmp a b)
one_key_gt q a b = ap (λ r. is_gt (ordering_then r (nat_cmp a b))) (tied_itself bytes_total q)

untrue : (b : Bool) → (b ≡ true → ⊥) → b ≡ false
untrue true h = absurd (h refl)
untrue false h = refl

module _ (places : BTreeSet (List ℕ × ℕ)) (q : List ℕ) (t : ℕ) (range : List (List ℕ × ℕ)) (is : IsKeyRangeOf by_key (Included (q, t + 1)) Unbounded places range) where
  inside : (w : ℕ) → t < w → is_gt (by_key (q, t + 1) (q, w)) ≡ false
  inside w lt = one_key_gt q (t + 1) w ∙ at_most (t + 1) w (omega arith)

  pub none_above : range ≡ [] → IsLeastAbove (is_listed places q) t None
  none_above e w lt = is.5 e (q, w) (inside w lt, tt)

  module _ (k : List ℕ × ℕ) (rest : List (List ℕ × ℕ)) (first : range ≡ k ∷ rest) where
    there : is_gt (by_key (q, t + 1) k) ≡ false
    there = (subst (λ r. IfSome (slice_get r 0) (IsKeyInRange by_key (Included (q, t + 1)) Unbounded places)) first is.1).0.0

    held : contains by_key places k ≡ true
    held = (subst (λ r. IfSome (slice_get r 0) (IsKeyInRange by_key (Included (q, t + 1)) Unbounded places)) first is.1).1

    least : (w : ℕ) → t < w → is_listed places q w ≡ true → is_gt (by_key k (q, w)) ≡ false
    least w lt h = subst (λ r. IfSome (slice_get r 0) (λ x. is_gt (by_key x (q, w)) ≡ false)) first (is.2 (q, w) (inside w lt, tt) h)

    pub least_of_key : k.0 ≡ q → IsLeastAbove (is_listed places q) t (Some k.1)
    least_of_key same =
        let from : t + 1 ≤ k.1 = not_above (t + 1) k.1 (sym (one_key_gt q (t + 1) k.1) ∙ subst (λ (x : List ℕ). is_gt (by_key (q, t + 1) (x, k.1)) ≡ false) same there) in (
          omega arith,
          subst (λ (x : List ℕ). contains by_key places (x, k.1) ≡ true) same held,
          λ w lt before. untrue (is_listed places q w) (λ h.
              let le : k.1 ≤ w = not_above k.1 w (sym (one_key_gt q k.1 w) ∙ subst (λ (x : List ℕ). is_gt (by_key (x, k.1) (q, w)) ≡ false) same (least w lt h)) in
              omega arith),
        )

    pub least_of_other : (k.0 ≡ q → ⊥) → IsLeastAbove (is_listed places q) t None
    least_of_other other w lt = untrue (is_listed places q w) (λ h. from (bytes_cmp q k.0) refl (least w lt h))
      where
        from : (r : Ordering) → bytes_cmp q k.0 ≡ r → is_gt (by_key k (q, w)) ≡ false → ⊥
        from Less e off = clash (sym (ap (λ r. is_gt (ordering_then r (nat_cmp k.1 w))) (bytes_total.antisymm k.0 q ∙ ap ordering_reverse e)) ∙ off)
        from Equal e off = other (sym (bytes_exact q k.0 e))
        from Greater e off = clash (sym (ap (λ r. is_gt (ordering_then r (nat_cmp (t + 1) k.1))) e) ∙ there)

-- ---- the list is made anew, or brought up

pub new_index : (index : RowIndex) (rows : RowList) → index.through ≡ 0 → ((q : List ℕ) (w : ℕ) → is_listed index.places q w ≡ false) → ((w : ℕ) (q : List ℕ) → IsSome (row_in rows (w, q)) → 0 < w) → IsIndex index rows
new_index index rows start none above = record {
  listed = λ w q some le. absurd (let lt = above w q some in omega arith);
  only = λ w q h. absurd (clash (sym h ∙ none q w));
}

pub no_rows_yet : (rows : RowList) → rows ≡ [] → (w : ℕ) (q : List ℕ) → IsSome (row_in rows (w, q)) → 0 < w
no_rows_yet rows none w q some = absurd (clash (sym (subst (λ (l : RowList). IsSome (row_in l (w, q))) none some)))

-- rows beyond a version are rows
beyond_in : (rows : RowList) (t w : ℕ) (q : List ℕ) → nat_lt t w ≡ true → IsSome (row_in rows (w, q)) → IsSome (row_in (rows_beyond rows t) (w, q))
beyond_in rows t w q lt some = subst IsSome (sym (row_in-filter (λ p. nat_lt t p.0) rows (w, q) ∙ ap (λ b. cond b (row_in rows (w, q)) None) lt)) some

pub caught_up : (rows : RowList) (first t applied : ℕ) (old new : BTreeSet (List ℕ × ℕ)) → IsIndex (record { places = old; through = t }) rows → drop first rows ≡ rows_beyond rows t
    → ((w : ℕ) (q : List ℕ) → IsSome (row_in (drop first rows) (w, q)) → is_listed new q w ≡ true) → ((q : List ℕ) (w : ℕ) → is_listed old q w ≡ true → is_listed new q w ≡ true)
    → ((w : ℕ) (q : List ℕ) → is_listed new q w ≡ true → IsSome (row_in rows (w, q))) → IsIndex (record { places = new; through = applied }) rows
caught_up rows first t applied old new index back all kept only = record {
  listed = λ w q some le. from w q some (nat_lt t w) refl;
  only = only;
}
  where
    from : (w : ℕ) (q : List ℕ) → IsSome (row_in rows (w, q)) → (b : Bool) → nat_lt t w ≡ b → is_listed new q w ≡ true
    from w q some true e = all w q (subst (λ (l : RowList). IsSome (row_in l (w, q))) (sym back) (beyond_in rows t w q e some))
    from w q some false e = kept q w (index.listed w q some (ltb-false t w e))

-- ---- a row goes, and its place

struck_index : (index index' : RowIndex) (rows rest : RowList) (row : Place × Option (List ℕ)) → IsIndex index rows → index'.through ≡ index.through
    → ((q : List ℕ) (w : ℕ) → is_listed index'.places q w ≡ cond (is_eq (by_key (row.0.1, row.0.0) (q, w))) false (is_listed index.places q w))
    → ((p : Place) → row_in rest p ≡ cond (is_at (place_cmp p) row.0) None (row_in rows p)) → IsIndex index' rest
struck_index index index' rows rest row is same struck left = record {
  listed = λ w q some le. listed w q le (is_at (place_cmp (w, q)) row.0) refl (subst IsSome (left (w, q)) some);
  only = λ w q h. only w q (is_at (place_cmp (w, q)) row.0) refl (sym (by_place q w) ∙ h);
}
  where
    by_place : (q : List ℕ) (w : ℕ) → is_listed index'.places q w ≡ cond (is_at (place_cmp (w, q)) row.0) false (is_listed index.places q w)
    by_place q w = struck q w ∙ ap (λ b. cond b false (is_listed index.places q w)) (turned row.0 q w)

    listed : (w : ℕ) (q : List ℕ) → w ≤ index'.through → (b : Bool) → is_at (place_cmp (w, q)) row.0 ≡ b → IsSome (cond b None (row_in rows (w, q))) → is_listed index'.places q w ≡ true
    listed w q le true e some = absurd (clash (sym some))
    listed w q le false e some = by_place q w ∙ ap (λ b. cond b false (is_listed index.places q w)) e ∙ is.listed w q some (omega arith)

    only : (w : ℕ) (q : List ℕ) (b : Bool) → is_at (place_cmp (w, q)) row.0 ≡ b → cond b false (is_listed index.places q w) ≡ true → IsSome (row_in rest (w, q))
    only w q true e h = absurd (clash (sym h))
    only w q false e h = subst IsSome (sym (left (w, q) ∙ ap (λ b. cond b None (row_in rows (w, q))) e)) (is.only w q h)

pub first_struck : (index index' : RowIndex) (rows rest : RowList) (row : Place × Option (List ℕ)) → rows ≡ row ∷ rest → IsInOrder rows → IsIndex index rows → index'.through ≡ index.through
    → ((q : List ℕ) (w : ℕ) → is_listed index'.places q w ≡ cond (is_eq (by_key (row.0.1, row.0.0) (q, w))) false (is_listed index.places q w)) → IsInOrder rest × IsIndex index' rest
first_struck index index' rows rest row is order listed same struck = (
  sorted_tail place_cmp row.0 (keys_of rest) sorted,
  struck_index index index' rows rest row listed same struck (λ p. from p (is_at (place_cmp p) row.0) refl),
)
  where
    sorted : IsInOrder (row ∷ rest)
    sorted = subst IsInOrder is order

    from : (p : Place) (b : Bool) → is_at (place_cmp p) row.0 ≡ b → row_in rest p ≡ cond (is_at (place_cmp p) row.0) None (row_in rows p)
    from p true e =
        ap (row_in rest) (one_key place_exact p row.0 e)
        ∙ none_below place_total row.0 rest (sorted_head place_cmp row.0 (keys_of rest) sorted)
        ∙ sym (ap (λ b. cond b None (row_in rows p)) e)
    from p false e =
        sym (ap (λ b. cond b None (row_in rows p)) e ∙ ap (λ (l : RowList). row_in l p) is ∙ ap (λ b. cond b (Some row.1) (row_in rest p)) e)

all-front : (P : Place → Type 0) (xs ys : RowList) → AllByRecursion P (keys_of (xs ++ ys)) → AllByRecursion P (keys_of xs) × AllByRecursion P (keys_of ys)
all-front P [] ys h = (tt, h)
all-front P (x ∷ xs) ys h = let rest = all-front P xs ys h.1 in ((h.0, rest.0), rest.1)

order-front : (xs ys : RowList) → IsInOrder (xs ++ ys) → IsInOrder xs
unfolding IsStrictlySortedBy
order-front [] ys h = tt
order-front (x ∷ xs) ys h = ((all-front (λ y. place_cmp x.0 y ≡ Less) xs ys h.0).0, order-front xs ys h.1)

-- a place behind all rows has none among them
none_before : (xs : RowList) (row : Place × Option (List ℕ)) → IsInOrder (xs ++ row ∷ []) → row_in xs row.0 ≡ None
unfolding IsStrictlySortedBy
none_before [] row h = refl
none_before (x ∷ xs) row h =
    let less : place_cmp x.0 row.0 ≡ Less = (all-front (λ y. place_cmp x.0 y ≡ Less) xs (row ∷ []) h.0).1.0 in
    ap (λ r. cond (is_eq r) (Some x.1) (row_in xs row.0)) (place_total.antisymm row.0 x.0 ∙ ap ordering_reverse less) ∙ none_before xs row h.1

pub last_struck : (index index' : RowIndex) (rows rest : RowList) (row : Place × Option (List ℕ)) → rows ≡ rest ++ row ∷ [] → IsInOrder rows → IsIndex index rows → index'.through ≡ index.through
    → ((q : List ℕ) (w : ℕ) → is_listed index'.places q w ≡ cond (is_eq (by_key (row.0.1, row.0.0) (q, w))) false (is_listed index.places q w)) → IsInOrder rest × IsIndex index' rest
last_struck index index' rows rest row is order listed same struck = (
  order-front rest (row ∷ []) sorted,
  struck_index index index' rows rest row listed same struck (λ p. from p (is_at (place_cmp p) row.0) refl),
)
  where
    sorted : IsInOrder (rest ++ row ∷ [])
    sorted = subst IsInOrder is order

    whole : (p : Place) → row_in rows p ≡ option_or (row_in rest p) (cond (is_at (place_cmp p) row.0) (Some row.1) None)
    whole p = ap (λ (l : RowList). row_in l p) is ∙ row_in-append rest (row ∷ []) p

    from : (p : Place) (b : Bool) → is_at (place_cmp p) row.0 ≡ b → row_in rest p ≡ cond (is_at (place_cmp p) row.0) None (row_in rows p)
    from p true e =
        ap (row_in rest) (one_key place_exact p row.0 e)
        ∙ none_before rest row sorted
        ∙ sym (ap (λ b. cond b None (row_in rows p)) e)
    from p false e =
        sym (ap (λ b. cond b None (row_in rows p)) e
        ∙ whole p
        ∙ ap (λ b. option_or (row_in rest p) (cond b (Some row.1) None)) e
        ∙ option_or_none (row_in rest p))

-- the list promises less after it goes back
pub gone_back : (index index' : RowIndex) (rows : RowList) → index'.places ≡ index.places → index'.through ≤ index.through → IsIndex index rows → IsIndex index' rows
gone_back index index' rows same less is = record {
  listed = λ w q some le. ap (λ s. is_listed s q w) same ∙ is.listed w q some (omega arith);
  only = λ w q h. is.only w q (sym (ap (λ s. is_listed s q w) same) ∙ h);
}

-- ---- rows are added at a version above it

pub extended_index : (index : RowIndex) (rows rows' : RowList) (old new : List ℕ → Option (List ℕ)) (applied version : ℕ) → IsIndex index rows → index.through ≤ applied → applied < version
    → ((p : Place) → row_in rows' p ≡ option_or (row_in rows p) (row_made old new version p)) → IsIndex index rows'
extended_index index rows rows' old new applied version is through later made = record {
  listed = λ w q some le. is.listed w q (from w q le (w == version) refl (subst IsSome (made (w, q)) some)) le;
  only = λ w q h. subst IsSome (sym (made (w, q))) (kept (row_in rows (w, q)) (row_made old new version (w, q)) (is.only w q h));
}
  where
    kept : (a b : Option (Option (List ℕ))) → IsSome a → IsSome (option_or a b)
    kept None b h = absurd (clash (sym h))
    kept (Some x) b h = refl

    from : (w : ℕ) (q : List ℕ) → w ≤ index.through → (b : Bool) → (w == version) ≡ b → IsSome (option_or (row_in rows (w, q)) (row_made old new version (w, q))) → IsSome (row_in rows (w, q))
    from w q le true e some = absurd (let same : w ≡ version = (unsigned_Decides w version).0 e in omega arith)
    from w q le false e some =
        subst IsSome (ap (λ b. option_or (row_in rows (w, q)) (cond b (before_if_changed (old q) (new q)) None)) e ∙ option_or_none (row_in rows (w, q))) some

-- ---- what a key held at a version

least_row-at : (undo : UndoRows) (q : List ℕ) (v : ℕ) (x : Option (List ℕ)) → get undo (v, q) ≡ Some x → (t n : ℕ) → ((w : ℕ) → t < w → w < v → get undo (w, q) ≡ None) → t < v → v ≤ t + n → least_row undo q t n ≡ Some x
unfolding least_row
least_row-at undo q v x at t zero none lt le = absurd (omega arith)
least_row-at undo q v x at t (suc n) none lt le =
    elim (t + 1 == v) as (λ b. (t + 1 == v) ≡ b → option_or (get undo (t + 1, q)) (least_row undo q (t + 1) n) ≡ Some x) [
      | true ↦ λ e. ap (λ o. option_or o (least_row undo q (t + 1) n)) (ap (λ w. get undo (w, q)) ((unsigned_Decides (t + 1) v).0 e) ∙ at)
      | false ↦ λ e.
          let before : t + 1 < v = apart (nat_lt (t + 1) v) refl e in
          ap (λ o. option_or o (least_row undo q (t + 1) n)) (none (t + 1) (omega arith) before) ∙ least_row-at undo q v x at (t + 1) n (λ w a b. none w (omega arith) b) before (omega arith)
    ] refl
  where
    apart : (b : Bool) → nat_lt (t + 1) v ≡ b → (t + 1 == v) ≡ false → t + 1 < v
    apart true e off = ltb-true (t + 1) v e
    apart false e off = absurd (clash (sym ((unsigned_Decides (t + 1) v).1 (let le = ltb-false (t + 1) v e in omega arith)) ∙ off))

module _ (index : RowIndex) (rows : RowList) (applied t : ℕ) (q : List ℕ) (is : IsIndex index rows) (whole : index.through ≡ applied) (upto : AreThrough rows applied) (below : t < applied) where
  absent : (w : ℕ) → is_listed index.places q w ≡ false → row_in rows (w, q) ≡ None
  absent w off = from (row_in rows (w, q)) refl
    where
      from : (o : Option (Option (List ℕ))) → row_in rows (w, q) ≡ o → row_in rows (w, q) ≡ None
      from None e = e
      from (Some x) e =
          let some : IsSome (row_in rows (w, q)) = ap is_some e in
          let le = upto w q some in
          absurd (clash (sym (is.listed w q some (omega arith)) ∙ off))

  pub unchanged_since : (held : Option (List ℕ)) → IsLeastAbove (is_listed index.places q) t None → held ≡ unwrap_or (least_row (map_of_rows rows) q t (applied - t)) held
  unchanged_since held none =
      sym (ap (λ o. unwrap_or o held) (least_row-none (map_of_rows rows) q t (applied - t) (λ w a b. get-map_of_rows rows (w, q) ∙ absent w (none w a))))

  pub changed_since : (v : ℕ) → IsLeastAbove (is_listed index.places q) t (Some v) → (x held : Option (List ℕ)) → row_in rows (v, q) ≡ Some x → x ≡ unwrap_or (least_row (map_of_rows rows) q t (applied - t)) held
  changed_since v least x held e =
      let le = upto v q (ap is_some e) in
      sym (ap (λ o. unwrap_or o held) (least_row-at (map_of_rows rows) q v x (get-map_of_rows rows (v, q) ∙ e) t (applied - t) (λ w a b. get-map_of_rows rows (w, q) ∙ absent w (least.2 w a b)) least.0 (omega arith)))

-- at the version applied there is nothing to undo
pub unchanged_yet : (undo : UndoRows) (q : List ℕ) (applied t : ℕ) → applied ≤ t → (held : Option (List ℕ)) → held ≡ unwrap_or (least_row undo q t (applied - t)) held
unchanged_yet undo q applied t le held = sym (ap (λ o. unwrap_or o held) (least_row-none undo q t (applied - t) (λ w a b. absurd (omega arith))))

pub unequal : (r b : Bool) → r ≡ not b → r ≡ false → b ≡ true
unequal r true is e = refl
unequal r false is e = absurd (clash (sym is ∙ e))

-- what is found first above t is the least row
pub first_least : (undo : UndoRows) (q : List ℕ) (t n : ℕ) → ((w : ℕ) → IsSome (get undo (w, q)) → w ≤ t + n) → (o : Option (Option (List ℕ))) → IsFirstAbove (λ w. get undo (w, q)) t o → least_row undo q t n ≡ o
first_least undo q t n upto None none = least_row-none undo q t n (λ w a b. none w a)
first_least undo q t n upto (Some before) (v, above, at, none) = least_row-at undo q v before at t n none above (upto v (ap is_some at))

pub same_first : (f g : ℕ → Option (Option (List ℕ))) → ((w : ℕ) → f w ≡ g w) → (t : ℕ) (o : Option (Option (List ℕ))) → IsFirstAbove f t o → IsFirstAbove g t o
same_first f g same t None none = λ w above. sym (same w) ∙ none w above
same_first f g same t (Some before) (v, above, at, none) = (v, above, sym (same v) ∙ at, λ w a b. sym (same w) ∙ none w a b)

-- ---- the rows from a place on

-- the part from a place up to the end is all from there on
pub to_end : (rows : RowList) (first n : ℕ) → n ≡ length rows → slice_range rows first n ≡ drop first rows
to_end rows first n is = take_all (n - first) (drop first rows) (let l = length-drop first rows in omega arith)

is_lt_le : (r : Ordering) → is_le (ordering_reverse r) ≡ not (is_lt r)
is_lt_le Less = refl
is_lt_le Equal = refl
is_lt_le Greater = refl

from_place : (p q : Place) → is_le (place_cmp p q) ≡ not (is_lt (place_cmp q p))
from_place p q = ap is_le (place_total.antisymm p q) ∙ is_lt_le (place_cmp q p)

pub passes_from : (p : Place) (row : Place × Option (List ℕ)) → (is_lt (place_cmp row.0 p) ≡ true → is_le (place_cmp p row.0) ≡ false) × (is_lt (place_cmp row.0 p) ≡ false → is_le (place_cmp p row.0) ≡ true)
passes_from p row = (λ e. from_place p row.0 ∙ ap not e, λ e. from_place p row.0 ∙ ap not e)

less : (r : Ordering) → is_lt r ≡ true → r ≡ Less
less Less e = refl
less Equal e = absurd (clash (sym e))
less Greater e = absurd (clash (sym e))

-- rows before a place come before all others
pub parted_at : (p : Place) (rows : RowList) → IsInOrder rows → IsPartitionedBy (λ row. is_lt (place_cmp row.0 p)) rows
unfolding IsStrictlySortedBy
parted_at p [] s i j d le lt h = absurd (omega arith)
parted_at p (e ∷ rows) s zero zero d le lt h = h
parted_at p (e ∷ rows) s zero (suc j) d le lt h =
    let first : place_cmp e.0 (slice_index_or rows j d).0 ≡ Less = at_place (λ y. place_cmp e.0 y ≡ Less) rows s.0 j d (omega arith) in
    ap is_lt (place_total.trans e.0 (slice_index_or rows j d).0 p first (less (place_cmp (slice_index_or rows j d).0 p) h))
parted_at p (e ∷ rows) s (suc i) zero d le lt h = absurd (omega arith)
parted_at p (e ∷ rows) s (suc i) (suc j) d le lt h = parted_at p rows s.1 i j d (omega arith) (omega arith) h

-- where there is a row at a place it is the first of those from the place on
pub first_is : (rows rest : RowList) (p : Place) (first : ℕ) (row : Place × Option (List ℕ)) → IsInOrder rows → drop first rows ≡ rows_from rows p → drop first rows ≡ row ∷ rest → IsSome (row_in rows p) → row_in rows p ≡ Some row.1
first_is rows rest p first row order back is some = from (is_at (place_cmp p) row.0) refl
  where
    left : IsInOrder (row ∷ rest)
    left = subst IsInOrder (sym back ∙ is) (order-filter (λ q. is_le (place_cmp p q)) rows order)

    itself : is_le (place_cmp p p) ≡ true
    itself = ap is_le (tied_itself place_total p)

    same : row_in rows p ≡ cond (is_at (place_cmp p) row.0) (Some row.1) (row_in rest p)
    same =
        sym (ap (λ b. cond b (row_in rows p) None) itself)
        ∙ sym (row_in-filter (λ q. is_le (place_cmp p q)) rows p)
        ∙ ap (λ (l : RowList). row_in l p) (sym back ∙ is)

    -- it is from the place on
    after : is_le (place_cmp p row.0) ≡ true
    after = (subst (λ (l : RowList). AllByRecursion (λ y. is_le (place_cmp p y) ≡ true) (keys_of l)) (sym back ∙ is) (all-passing (λ q. is_le (place_cmp p q)) rows)).0

    from : (b : Bool) → is_at (place_cmp p) row.0 ≡ b → row_in rows p ≡ Some row.1
    from true e = same ∙ ap (λ b. cond b (Some row.1) (row_in rest p)) e
    from false e =
        let before : place_cmp p row.0 ≡ Less = strict (place_cmp p row.0) after e in
        let none : row_in rest p ≡ None = none_below place_total p rest (each_after (keys_of rest) (sorted_head place_cmp row.0 (keys_of rest) left) before) in
        absurd (clash (sym (subst IsSome (same ∙ ap (λ b. cond b (Some row.1) (row_in rest p)) e ∙ none) some)))
      where
        strict : (r : Ordering) → is_le r ≡ true → is_eq r ≡ false → r ≡ Less
        strict Less a b = refl
        strict Equal a b = absurd (clash b)
        strict Greater a b = absurd (clash (sym a))

        each_after : (ks : List Place) → AllByRecursion (λ y. place_cmp row.0 y ≡ Less) ks → place_cmp p row.0 ≡ Less → AllByRecursion (λ y. place_cmp p y ≡ Less) ks
        each_after [] h lt = tt
        each_after (k ∷ ks) h lt = (place_total.trans p row.0 k lt h.0, each_after ks h.1 lt)

-- where there is a row at a place some row is from the place on
pub some_from : (rows : RowList) (p : Place) (first : ℕ) → drop first rows ≡ rows_from rows p → drop first rows ≡ [] → IsSome (row_in rows p) → ⊥
some_from rows p first back none some =
    clash (sym (subst IsSome (sym (ap (λ b. cond b (row_in rows p) None) (ap is_le (tied_itself place_total p))) ∙ sym (row_in-filter (λ q. is_le (place_cmp p q)) rows p) ∙ ap (λ (l : RowList). row_in l p) (sym back ∙ none)) some))
