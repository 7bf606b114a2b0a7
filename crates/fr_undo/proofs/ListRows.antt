-- Undo rows in a list, in the order of their places.
use Rattle.std.proofs.Common.{◌≡◌, ℕ, zero, suc, ◌+◌, ◌<◌, ◌≤◌, Bool, true, false, not, cond, List, [], ◌∷◌, ◌++◌, length, take, drop, Option, None, Some, refl, sym, ap, ◌∙◌, arith, append_assoc, length-append}
use Rattle.std.specs.Prelude.{◌==◌, nat_le, nat_lt, slice_index_or, unwrap_or}
use Rattle.std.specs.declared.cmp.Ordering.{Ordering}
use Rattle.std.specs.declared.cmp.Ordering.TheVariants.{Less, Equal, Greater}
use Rattle.std.specs.Option.{option_or}
use Rattle.std.specs.Ordering.{is_le, nat_cmp, ordering_then}
use Rattle.std.specs.Cmp.{unsigned_Decides, nat_cmp_is, ranked, nat_cmp_total, tied_itself, eq_by_cmp_equiv}
use Rattle.std.specs.BTreeMap.{is_at}
use Rattle.std.specs.Map.{lookup, keys_of}
use Rattle.std.specs.List.{filter, AllByRecursion}
use Rattle.std.specs.List.Sorted.{IsStrictlySortedBy, IsPartitionedBy}
use Rattle.std.specs.FinMap.{empty, get, len, from_entries, from_sorted, get-from_entries, get-from_sorted, entries-from_sorted, len-entries, same_map}
use Rattle.std.proofs.lemmas.Bool.{leb-true, leb-false, ltb-true, ltb-false}
use Rattle.fr_base.specs.Bytes.{bytes_cmp, bytes_total, bytes_exact, is_same}
use Rattle.fr_base.proofs.MapLemmas.{none_below, one_key}
use Rattle.fr_undo.specs.State.{Place, place_cmp, UndoRows}
use Rattle.fr_undo.specs.declared.write.Fate.{Fate}
use Rattle.fr_undo.specs.Rows.{RowList, row_in, map_of_rows, IsInOrder, rows_beyond, AreThrough, with_row, rows_left, rows_made}
use Rattle.fr_undo.specs.Changes.{row_made, first_row}
use Rattle.fr_undo.specs.declared.plan.Plan.{Plan}
use Rattle.fr_undo.specs.Plan.{planned, value_planned, row_left, row_planned}
use Rattle.fr_undo.specs.Undo.{least_row, before_if_changed}
use Rattle.fr_undo.proofs.UndoLemmas.{place_total, place_exact, one_version, same_value-itself}
use Rattle.fr_undo.proofs.ChangeLemmas.{cond_none, not_at_version}
use Rattle.fr_undo.proofs.TreeLemmas.{find-lookup, sorted}
use Rattle.fr_undo.proofs.RowLemmas.{option_or_none, bounded, first_row-least, from_less, least_by-same, least_row-by}

-- ---- as a map

pub get-map_of_rows : (rows : RowList) (p : Place) → get (map_of_rows rows) p ≡ row_in rows p
unfolding map_of_rows
get-map_of_rows rows p = get-from_entries place_total rows p ∙ find-lookup place_cmp p rows

pub len-map_of_rows : (rows : RowList) → IsInOrder rows → len (map_of_rows rows) ≡ length rows
len-map_of_rows rows order =
    let made : UndoRows = from_sorted rows in
    let is : map_of_rows rows ≡ made = same_map place_total place_exact _ _ (λ p. get-map_of_rows rows p ∙ sym (get-from_sorted place_cmp rows p (sorted place_cmp rows order) ∙ find-lookup place_cmp p rows)) in
    ap len is ∙ len-entries made ∙ ap length (entries-from_sorted place_cmp rows (sorted place_cmp rows order))

pub map_of_rows-empty : (rows : RowList) → rows ≡ [] → map_of_rows rows ≡ empty
unfolding map_of_rows
map_of_rows-empty rows e = ap from_entries e

pub no_rows : IsInOrder []
unfolding IsStrictlySortedBy
no_rows = tt

-- ---- rows whose places pass a test

pub row_in-filter : (test : Place → Bool) (rows : RowList) (p : Place) → row_in (filter (λ e. test e.0) rows) p ≡ cond (test p) (row_in rows p) None
row_in-filter test [] p = sym (cond_none (test p))
row_in-filter test (e ∷ rows) p =
    elim (test e.0) as (λ b. test e.0 ≡ b → row_in (cond b (e ∷ filter (λ r. test r.0) rows) (filter (λ r. test r.0) rows)) p ≡ cond (test p) (cond (is_at (place_cmp p) e.0) (Some e.1) (row_in rows p)) None) [
      | true ↦ λ t.
          ap (λ o. cond (is_at (place_cmp p) e.0) (Some e.1) o) (row_in-filter test rows p)
          ∙ elim (is_at (place_cmp p) e.0) as (λ b. is_at (place_cmp p) e.0 ≡ b → cond b (Some e.1) (cond (test p) (row_in rows p) None) ≡ cond (test p) (cond b (Some e.1) (row_in rows p)) None) [
            | true ↦ λ at. sym (ap (λ b. cond b (Some e.1) None) (ap test (one_key place_exact p e.0 at) ∙ t))
            | false ↦ λ at. refl
          ] refl
      | false ↦ λ t.
          row_in-filter test rows p
          ∙ elim (is_at (place_cmp p) e.0) as (λ b. is_at (place_cmp p) e.0 ≡ b → cond (test p) (row_in rows p) None ≡ cond (test p) (cond b (Some e.1) (row_in rows p)) None) [
            | true ↦ λ at.
                let no : test p ≡ false = ap test (one_key place_exact p e.0 at) ∙ t in
                ap (λ b. cond b (row_in rows p) None) no ∙ sym (ap (λ b. cond b (Some e.1) None) no)
            | false ↦ λ at. refl
          ] refl
    ] refl

all-filter : (P : Place → Type 0) (test : Place → Bool) (rows : RowList) → AllByRecursion P (keys_of rows) → AllByRecursion P (keys_of (filter (λ e. test e.0) rows))
all-filter P test [] h = tt
all-filter P test (e ∷ rows) h =
    elim (test e.0) as (λ b. AllByRecursion P (keys_of (cond b (e ∷ filter (λ r. test r.0) rows) (filter (λ r. test r.0) rows)))) [
      | true ↦ (h.0, all-filter P test rows h.1)
      | false ↦ all-filter P test rows h.1
    ]

pub all-passing : (test : Place → Bool) (rows : RowList) → AllByRecursion (λ p. test p ≡ true) (keys_of (filter (λ e. test e.0) rows))
all-passing test [] = tt
all-passing test (e ∷ rows) =
    elim (test e.0) as (λ b. test e.0 ≡ b → AllByRecursion (λ p. test p ≡ true) (keys_of (cond b (e ∷ filter (λ r. test r.0) rows) (filter (λ r. test r.0) rows)))) [
      | true ↦ λ t. (t, all-passing test rows)
      | false ↦ λ t. all-passing test rows
    ] refl

pub order-filter : (test : Place → Bool) (rows : RowList) → IsInOrder rows → IsInOrder (filter (λ e. test e.0) rows)
unfolding IsStrictlySortedBy
order-filter test [] h = tt
order-filter test (e ∷ rows) h =
    elim (test e.0) as (λ b. IsInOrder (cond b (e ∷ filter (λ r. test r.0) rows) (filter (λ r. test r.0) rows))) [
      | true ↦ (all-filter (λ y. place_cmp e.0 y ≡ Less) test rows h.0, order-filter test rows h.1)
      | false ↦ order-filter test rows h.1
    ]

-- ---- rows through a version

lt_from_le : (t n : ℕ) → nat_lt t n ≡ not (nat_le n t)
lt_from_le t n =
    elim (nat_le n t) as (λ b. nat_le n t ≡ b → nat_lt t n ≡ not b) [
      | true ↦ λ e. let le = leb-true n t e in elim (nat_lt t n) as (λ b. nat_lt t n ≡ b → b ≡ false) [ true ↦ λ h. absurd (let lt = ltb-true t n h in omega arith) | false ↦ λ h. refl ] refl
      | false ↦ λ e. let lt = leb-false n t e in elim (nat_lt t n) as (λ b. nat_lt t n ≡ b → b ≡ true) [ true ↦ λ h. refl | false ↦ λ h. absurd (let le = ltb-false t n h in omega arith) ] refl
    ] refl

pub at_place : (P : Place → Type 0) (rows : RowList) → AllByRecursion P (keys_of rows) → (j : ℕ) (d : Place × Option (List ℕ)) → j < length rows → P (slice_index_or rows j d).0
at_place P [] h j d lt = absurd (omega arith)
at_place P (e ∷ rows) h zero d lt = h.0
at_place P (e ∷ rows) h (suc j) d lt = at_place P rows h.1 j d (omega arith)

le_true : (a b : ℕ) → a ≤ b → nat_le a b ≡ true
le_true a b le = elim (nat_le a b) as (λ s. nat_le a b ≡ s → s ≡ true) [ true ↦ λ e. refl | false ↦ λ e. absurd (let lt = leb-false a b e in omega arith) ] refl

lt_false : (a b : ℕ) → b < a → nat_le a b ≡ false
lt_false a b lt = elim (nat_le a b) as (λ s. nat_le a b ≡ s → s ≡ false) [ true ↦ λ e. absurd (let le = leb-true a b e in omega arith) | false ↦ λ e. refl ] refl

le_is : (a b : ℕ) → is_le (nat_cmp a b) ≡ nat_le a b
le_is a b = from (nat_cmp a b) refl
  where
    from : (r : Ordering) → nat_cmp a b ≡ r → is_le r ≡ nat_le a b
    from Less e = let lt : a < b = ranked a b Less (sym e) in sym (le_true a b (omega arith))
    from Equal e = let is : a ≡ b = ranked a b Equal (sym e) in sym (le_true a b (omega arith))
    from Greater e = let lt : b < a = ranked a b Greater (sym e) in sym (lt_false a b lt)

-- whether a row is through a version
abbrev pub is_through : ℕ → Place × Option (List ℕ) → Bool
is_through t row = is_le (nat_cmp row.0.0 t)

pub passes_through : (t : ℕ) (row : Place × Option (List ℕ)) → (is_through t row ≡ true → nat_le row.0.0 t ≡ true) × (is_through t row ≡ false → nat_le row.0.0 t ≡ false)
passes_through t row = (λ e. sym (le_is row.0.0 t) ∙ e, λ e. sym (le_is row.0.0 t) ∙ e)

pub passes_beyond : (t : ℕ) (row : Place × Option (List ℕ)) → (is_through t row ≡ true → nat_lt t row.0.0 ≡ false) × (is_through t row ≡ false → nat_lt t row.0.0 ≡ true)
passes_beyond t row = (λ e. lt_from_le t row.0.0 ∙ ap not (sym (le_is row.0.0 t) ∙ e), λ e. lt_from_le t row.0.0 ∙ ap not (sym (le_is row.0.0 t) ∙ e))

-- rows through a version come before all others
pub parted : (rows : RowList) (t : ℕ) → IsInOrder rows → IsPartitionedBy (is_through t) rows
unfolding IsStrictlySortedBy
parted [] t s i j d le lt h = absurd (omega arith)
parted (e ∷ rows) t s zero zero d le lt h = h
parted (e ∷ rows) t s zero (suc j) d le lt h =
    let below = from_less e.0 (slice_index_or rows j d).0 (at_place (λ y. place_cmp e.0 y ≡ Less) rows s.0 j d (omega arith)) in
    let least = leb-true (slice_index_or rows j d).0.0 t (sym (le_is (slice_index_or rows j d).0.0 t) ∙ h) in
    le_is e.0.0 t ∙ le_true e.0.0 t (omega arith)
parted (e ∷ rows) t s (suc i) zero d le lt h = absurd (omega arith)
parted (e ∷ rows) t s (suc i) (suc j) d le lt h = parted rows t s.1 i j d (omega arith) (omega arith) h

module _ {X : Type 0} (test : X → Bool) where
  none_pass : (xs : List X) → ((k : ℕ) (d : X) → k < length xs → test (slice_index_or xs k d) ≡ false) → filter test xs ≡ []
  none_pass [] h = refl
  none_pass (x ∷ xs) h = ap (λ b. cond b (x ∷ filter test xs) (filter test xs)) (h 0 x (omega arith)) ∙ none_pass xs (λ k d lt. h (suc k) d (omega arith))

  all_pass : (xs : List X) → ((k : ℕ) (d : X) → k < length xs → test (slice_index_or xs k d) ≡ true) → filter test xs ≡ xs
  all_pass [] h = refl
  all_pass (x ∷ xs) h = ap (λ b. cond b (x ∷ filter test xs) (filter test xs)) (h 0 x (omega arith)) ∙ ap (λ l. x ∷ l) (all_pass xs (λ k d lt. h (suc k) d (omega arith)))

  pub front_passes : (xs : List X) (i : ℕ) → ((k : ℕ) (d : X) → k < i → test (slice_index_or xs k d) ≡ true) → ((k : ℕ) (d : X) → i ≤ k → k < length xs → test (slice_index_or xs k d) ≡ false) → i ≤ length xs → take i xs ≡ filter test xs
  front_passes [] zero a b le = refl
  front_passes [] (suc i) a b le = absurd (omega arith)
  front_passes (x ∷ xs) zero a b le = sym (none_pass (x ∷ xs) (λ k d lt. b k d (omega arith) lt))
  front_passes (x ∷ xs) (suc i) a b le =
      ap (λ l. x ∷ l) (front_passes xs i (λ k d lt. a (suc k) d (omega arith)) (λ k d ge lt. b (suc k) d (omega arith) (omega arith)) (omega arith))
      ∙ sym (ap (λ s. cond s (x ∷ filter test xs) (filter test xs)) (a 0 x (omega arith)))

  pub back_passes : (xs : List X) (i : ℕ) → ((k : ℕ) (d : X) → k < i → test (slice_index_or xs k d) ≡ false) → ((k : ℕ) (d : X) → i ≤ k → k < length xs → test (slice_index_or xs k d) ≡ true) → i ≤ length xs → drop i xs ≡ filter test xs
  back_passes [] zero a b le = refl
  back_passes [] (suc i) a b le = absurd (omega arith)
  back_passes (x ∷ xs) zero a b le = sym (all_pass (x ∷ xs) (λ k d lt. b k d (omega arith) lt))
  back_passes (x ∷ xs) (suc i) a b le =
      back_passes xs i (λ k d lt. a (suc k) d (omega arith)) (λ k d ge lt. b (suc k) d (omega arith) (omega arith)) (omega arith)
      ∙ sym (ap (λ s. cond s (x ∷ filter test xs) (filter test xs)) (a 0 x (omega arith)))

-- the first row of a key among those above t is its row of least version above t
pub first_beyond : (rows : RowList) (t n : ℕ) (q : List ℕ) → IsInOrder rows → AreThrough rows (t + n) → first_row q (rows_beyond rows t) ≡ least_row (map_of_rows rows) q t n
first_beyond rows t n q order upto =
    first_row-least (λ p. nat_lt t p.0) t n q (λ p. lt_from_le t p.0) rows order (bounded (t + n) rows upto)
    ∙ least_by-same (λ w. row_in rows (w, q)) (λ w. get (map_of_rows rows) (w, q)) t n (λ w lt. sym (get-map_of_rows rows (w, q)))
    ∙ sym (least_row-by (map_of_rows rows) q t n)

-- ---- rows behind others

pub row_in-append : (xs ys : RowList) (p : Place) → row_in (xs ++ ys) p ≡ option_or (row_in xs p) (row_in ys p)
row_in-append [] ys p = refl
row_in-append (x ∷ xs) ys p =
    ap (cond (is_at (place_cmp p) x.0) (Some x.1)) (row_in-append xs ys p)
    ∙ elim (is_at (place_cmp p) x.0) as (λ b. cond b (Some x.1) (option_or (row_in xs p) (row_in ys p)) ≡ option_or (cond b (Some x.1) (row_in xs p)) (row_in ys p)) [ true ↦ refl | false ↦ refl ]

all-append : (P : Place → Type 0) (xs ys : RowList) → AllByRecursion P (keys_of xs) → AllByRecursion P (keys_of ys) → AllByRecursion P (keys_of (xs ++ ys))
all-append P [] ys a b = b
all-append P (x ∷ xs) ys a b = (a.0, all-append P xs ys a.1 b)

-- rows whose places are all after those of others go behind them
pub order-append : (xs ys : RowList) → IsInOrder xs → IsInOrder ys → AllByRecursion (λ x. AllByRecursion (λ y. place_cmp x y ≡ Less) (keys_of ys)) (keys_of xs) → IsInOrder (xs ++ ys)
unfolding IsStrictlySortedBy
order-append [] ys s t h = t
order-append (x ∷ xs) ys s t h = (all-append (λ y. place_cmp x.0 y ≡ Less) xs ys s.0 h.0, order-append xs ys s.1 t h.1)

each : {X : Type 0} (P Q : X → Type 0) → ((x : X) → P x → Q x) → (xs : List X) → AllByRecursion P xs → AllByRecursion Q xs
each P Q f [] h = tt
each P Q f (x ∷ xs) h = (f x h.0, each P Q f xs h.1)

-- ---- rows of a plan

all-with_row : (P : Place → Type 0) (place : Place) (b : Option (Option (List ℕ))) (rest : RowList) → P place → AllByRecursion P (keys_of rest) → AllByRecursion P (keys_of (with_row place b rest))
all-with_row P place None rest h all = all
all-with_row P place (Some x) rest h all = (h, all)

order-with_row : (place : Place) (b : Option (Option (List ℕ))) (rest : RowList) → AllByRecursion (λ y. place_cmp place y ≡ Less) (keys_of rest) → IsInOrder rest → IsInOrder (with_row place b rest)
unfolding IsStrictlySortedBy
order-with_row place None rest after order = order
order-with_row place (Some x) rest after order = (after, order)

module _ (v : ℕ) (held : List ℕ → Option (List ℕ)) where
  all-made : (P : Place → Type 0) (es : List (List ℕ × Option (List ℕ))) → AllByRecursion (λ k. P (v, k)) (keys_of es) → AllByRecursion P (keys_of (rows_made v held es))
  all-made P [] h = tt
  all-made P (e ∷ es) h = all-with_row P (v, e.0) (before_if_changed (held e.0) e.1) (rows_made v held es) h.0 (all-made P es h.1)

  pub order-made : (es : List (List ℕ × Option (List ℕ))) → IsStrictlySortedBy bytes_cmp (keys_of es) → IsInOrder (rows_made v held es)
  unfolding IsStrictlySortedBy
  order-made [] s = tt
  order-made (e ∷ es) s =
      order-with_row (v, e.0) (before_if_changed (held e.0) e.1) (rows_made v held es)
      (all-made (λ y. place_cmp (v, e.0) y ≡ Less) es (each (λ k. bytes_cmp e.0 k ≡ Less) (λ k. place_cmp (v, e.0) (v, k) ≡ Less) (λ k h. ap (λ r. ordering_then r (bytes_cmp e.0 k)) (tied_itself nat_cmp_total v) ∙ h) (keys_of es) s.0))
      (order-made es s.1)

  all_keys : (P : List ℕ → Type 0) → ((k : List ℕ) → P k) → (es : List (List ℕ × Option (List ℕ))) → AllByRecursion P (keys_of es)
  all_keys P f [] = tt
  all_keys P f (e ∷ es) = (f e.0, all_keys P f es)

  -- they are in order behind rows of versions before
  pub order-extended : (rows : RowList) (es : List (List ℕ × Option (List ℕ))) (applied : ℕ) → IsInOrder rows → AreThrough rows applied → applied < v → IsStrictlySortedBy bytes_cmp (keys_of es) → IsInOrder (rows ++ rows_made v held es)
  order-extended rows es applied order upto later s =
      order-append rows (rows_made v held es) order (order-made es s)
      (each (λ x. x.0 ≤ applied) (λ x. AllByRecursion (λ y. place_cmp x y ≡ Less) (keys_of (rows_made v held es)))
      (λ x le. all-made (λ y. place_cmp x y ≡ Less) es (all_keys (λ k. place_cmp x (v, k) ≡ Less) (λ k. ap (λ r. ordering_then r (bytes_cmp x.1 k)) (sym (nat_cmp_is x.0 v Less (omega arith)))) es))
      (keys_of rows) (bounded applied rows upto))

  with_row-at : (k : List ℕ) (b : Option (Option (List ℕ))) (rest : RowList) (p : Place) → row_in (with_row (v, k) b rest) p ≡ option_or (cond (is_at (place_cmp p) (v, k)) b None) (row_in rest p)
  with_row-at k None rest p = sym (ap (λ o. option_or o (row_in rest p)) (cond_none (is_at (place_cmp p) (v, k))))
  with_row-at k (Some x) rest p = elim (is_at (place_cmp p) (v, k)) as (λ b. cond b (Some x) (row_in rest p) ≡ option_or (cond b (Some x) None) (row_in rest p)) [ true ↦ refl | false ↦ refl ]

  -- at a place there is the row of its key, if something is planned of that
  pub row_in-made : (es : List (List ℕ × Option (List ℕ))) → IsStrictlySortedBy bytes_cmp (keys_of es) → (p : Place)
      → row_in (rows_made v held es) p ≡ cond (p.0 == v) (row_planned (held p.1) (lookup (is_at (bytes_cmp p.1)) es)) None
  unfolding IsStrictlySortedBy
  row_in-made [] s p = sym (cond_none (p.0 == v))
  row_in-made (e ∷ es) s p =
      with_row-at e.0 made (rows_made v held es) p
      ∙ ap (option_or (cond (is_at (place_cmp p) (v, e.0)) made None)) (row_in-made es s.1 p)
      ∙ elim (p.0 == v) as (λ b. (p.0 == v) ≡ b → option_or (cond (is_at (place_cmp p) (v, e.0)) made None) (cond b (row_planned (held p.1) (found es)) None) ≡ cond b (row_planned (held p.1) (found (e ∷ es))) None) [
        | true ↦ λ t.
            let at : is_at (place_cmp p) (v, e.0) ≡ is_same p.1 e.0 = ap (λ w. is_at (place_cmp (w, p.1)) (v, e.0)) ((unsigned_Decides p.0 v).0 t) ∙ one_version v p.1 e.0 in
            ap (λ b. option_or (cond b made None) (row_planned (held p.1) (found es))) at ∙ here
        | false ↦ λ t. ap (λ b. option_or (cond b made None) None) ((eq_by_cmp_equiv place_total).symm p (v, e.0) ∙ not_at_version v e.0 p t)
      ] refl
    where
      made : Option (Option (List ℕ))
      made = before_if_changed (held e.0) e.1

      found : List (List ℕ × Option (List ℕ)) → Option (Option (List ℕ))
      found xs = lookup (is_at (bytes_cmp p.1)) xs

      here : option_or (cond (is_same p.1 e.0) made None) (row_planned (held p.1) (found es)) ≡ row_planned (held p.1) (found (e ∷ es))
      here =
          elim (is_same p.1 e.0) as (λ b. is_same p.1 e.0 ≡ b → option_or (cond b made None) (row_planned (held p.1) (found es)) ≡ row_planned (held p.1) (cond b (Some e.1) (found es))) [
            | true ↦ λ t.
                let none : found es ≡ None = ap (λ k. lookup (is_at (bytes_cmp k)) es) (one_key bytes_exact p.1 e.0 t) ∙ none_below bytes_total e.0 es s.0 in
                ap (λ o. option_or made (row_planned (held p.1) o)) none ∙ option_or_none made ∙ ap (λ k. before_if_changed (held k) e.1) (sym (one_key bytes_exact p.1 e.0 t))
            | false ↦ λ t. refl
          ] refl

-- ---- one more row

with_row-append : (place : Place) (b : Option (Option (List ℕ))) (rest : RowList) → with_row place b [] ++ rest ≡ with_row place b rest
with_row-append place None rest = refl
with_row-append place (Some x) rest = refl

with_row-length : (place : Place) (b : Option (Option (List ℕ))) → length (with_row place b []) ≤ 1
with_row-length place None = omega arith
with_row-length place (Some x) = omega arith

module _ (v : ℕ) (held : List ℕ → Option (List ℕ)) (rows rows' : RowList) (es rest : List (List ℕ × Fate)) (e : List ℕ × Fate) (b : Option (Option (List ℕ))) (is : es ≡ e ∷ rest)
    (put : rows' ≡ rows ++ with_row (v, e.0) b []) where
  pub left_step : b ≡ row_left e.1 (held e.0) → rows' ++ rows_left v held rest ≡ rows ++ rows_left v held es
  left_step made =
      ap (λ l. l ++ rows_left v held rest) put
      ∙ append_assoc rows (with_row (v, e.0) b []) (rows_left v held rest)
      ∙ ap (λ l. rows ++ l) (with_row-append (v, e.0) b (rows_left v held rest) ∙ ap (λ o. with_row (v, e.0) o (rows_left v held rest)) made)
      ∙ sym (ap (λ l. rows ++ rows_left v held l) is)

  pub room_step : (room : ℕ) → length rows + length es ≤ room → length rows' + length rest ≤ room
  room_step room le =
      let long = ap length put ∙ length-append rows (with_row (v, e.0) b []) in
      let one = with_row-length (v, e.0) b in
      let more = ap length is in
      omega arith

pub none_left : {X : Type 0} (xs : List X) → length xs ≡ 0 → xs ≡ []
none_left [] e = refl
none_left (x ∷ xs) e = absurd (omega arith)

-- the row of a key of a plan is that of the batch of which it is the plan
pub rows_agree : (plan : Plan) (old new : List ℕ → Option (List ℕ)) (v : ℕ) → ((q : List ℕ) → value_planned plan old q ≡ new q)
    → (p : Place) → cond (p.0 == v) (row_planned (old p.1) (planned plan p.1)) None ≡ row_made old new v p
rows_agree plan old new v values p = ap (λ o. cond (p.0 == v) o None) (from (planned plan p.1) refl)
  where
    from : (o : Option (Option (List ℕ))) → planned plan p.1 ≡ o → row_planned (old p.1) o ≡ before_if_changed (old p.1) (new p.1)
    from None e =
        let same : old p.1 ≡ new p.1 = sym (ap (λ o. unwrap_or o (old p.1)) e) ∙ values p.1 in
        sym (ap (λ x. before_if_changed (old p.1) x) (sym same) ∙ ap (λ b. cond b None (Some (old p.1))) (same_value-itself (old p.1)))
    from (Some after) e = ap (before_if_changed (old p.1)) (sym (ap (λ o. unwrap_or o (old p.1)) e) ∙ values p.1)
