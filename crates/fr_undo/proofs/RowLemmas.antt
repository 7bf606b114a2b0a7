-- Undo rows in the order of their places, and what they make of keys.
use Rattle.std.proofs.Common.{◌≡◌, ℕ, zero, suc, ◌+◌, ◌<◌, ◌≤◌, Bool, true, false, not, cond, ◌&&◌, List, [], ◌∷◌, Option, None, Some, IsSome, refl, sym, ap, ◌∙◌, arith}
use Rattle.std.specs.Prelude.{◌==◌, is_some, nat_le}
use Rattle.std.specs.declared.cmp.Ordering.{Ordering}
use Rattle.std.specs.declared.cmp.Ordering.TheVariants.{Less, Equal, Greater}
use Rattle.std.specs.Option.{option_or}
use Rattle.std.specs.Ordering.{is_eq, is_lt, is_le, is_gt, nat_cmp, ordering_then}
use Rattle.std.specs.Cmp.{unsigned_Decides, ranked, tied_itself}
use Rattle.std.specs.BTreeMap as tree
use Rattle.std.specs.BTreeMap.{is_at}
use Rattle.std.specs.Map.{lookup, keys_of}
use Rattle.std.specs.List.{filter, AllByRecursion}
use Rattle.std.specs.List.Sorted.{IsStrictlySortedBy}
use Rattle.std.proofs.lemmas.Map.Keys.{sorted_head, sorted_tail}
use Rattle.std.specs.FinMap.{get}
use Rattle.std.proofs.lemmas.Bool.{leb-true, leb-false}
use Rattle.fr_base.specs.Bytes.{bytes_cmp, is_same, bytes_exact}
use Rattle.fr_base.specs.Map.{map_of}
use Rattle.fr_base.proofs.MapLemmas.{get-map_of, one_key, is_same-comm}
use Rattle.fr_undo.specs.State.{Place, place_cmp, UndoRows}
use Rattle.fr_undo.specs.Trees.{Rows, IsUpTo}
use Rattle.fr_undo.specs.Changes.{first_row}
use Rattle.fr_undo.specs.Undo.{least_row}
use Rattle.fr_undo.proofs.UndoLemmas.{place_total, is_eq_second}

clash : false ≡ true → ⊥
clash h = cc

pub above_from_gt : (a b : ℕ) → is_gt (nat_cmp a b) ≡ true → b < a
above_from_gt a b e = from (nat_cmp a b) refl
  where
    from : (r : Ordering) → nat_cmp a b ≡ r → b < a
    from Less t = absurd (clash (sym (ap is_gt t) ∙ e))
    from Equal t = absurd (clash (sym (ap is_gt t) ∙ e))
    from Greater t = ranked a b Greater (sym t)

pub below_from_lt : (a b : ℕ) → is_lt (nat_cmp a b) ≡ true → a < b
below_from_lt a b e = from (nat_cmp a b) refl
  where
    from : (r : Ordering) → nat_cmp a b ≡ r → a < b
    from Less t = ranked a b Less (sym t)
    from Equal t = absurd (clash (sym (ap is_lt t) ∙ e))
    from Greater t = absurd (clash (sym (ap is_lt t) ∙ e))

pub above_from_not_le : (a b : ℕ) → is_le (nat_cmp a b) ≡ false → b < a
above_from_not_le a b e = from (nat_cmp a b) refl
  where
    from : (r : Ordering) → nat_cmp a b ≡ r → b < a
    from Less t = absurd (clash (sym e ∙ ap is_le t))
    from Equal t = absurd (clash (sym e ∙ ap is_le t))
    from Greater t = ranked a b Greater (sym t)

-- ---- least rows

-- of n versions after t the first that has something
pub least_by : (ℕ → Option (Option (List ℕ))) → ℕ → ℕ → Option (Option (List ℕ))
least_by f t zero = None
least_by f t (suc n) = option_or (f (t + 1)) (least_by f (t + 1) n)

pub least_row-by : (undo : UndoRows) (q : List ℕ) (t n : ℕ) → least_row undo q t n ≡ least_by (λ w. get undo (w, q)) t n
unfolding least_row least_by
least_row-by undo q t zero = refl
least_row-by undo q t (suc n) = ap (option_or (get undo (t + 1, q))) (least_row-by undo q (t + 1) n)

pub least_by-none : (f : ℕ → Option (Option (List ℕ))) (t n : ℕ) → ((w : ℕ) → f w ≡ None) → least_by f t n ≡ None
unfolding least_by
least_by-none f t zero none = refl
least_by-none f t (suc n) none = λ i. option_or (none (t + 1) i) (least_by-none f (t + 1) n none i)

pub least_by-same : (f g : ℕ → Option (Option (List ℕ))) (t n : ℕ) → ((w : ℕ) → t < w → f w ≡ g w) → least_by f t n ≡ least_by g t n
unfolding least_by
least_by-same f g t zero same = refl
least_by-same f g t (suc n) same = λ i. option_or (same (t + 1) (omega arith) i) (least_by-same f g (t + 1) n (λ w lt. same w (omega arith)) i)

-- it is at v where none is before
pub least_by-at : (f : ℕ → Option (Option (List ℕ))) (v : ℕ) (x : Option (List ℕ)) → f v ≡ Some x → ((w : ℕ) → w < v → f w ≡ None) → (t n : ℕ) → t < v → v ≤ t + n → least_by f t n ≡ Some x
unfolding least_by
least_by-at f v x at none t zero lt le = absurd (omega arith)
least_by-at f v x at none t (suc n) lt le =
    elim (t + 1 == v) as (λ b. (t + 1 == v) ≡ b → option_or (f (t + 1)) (least_by f (t + 1) n) ≡ Some x) [
      | true ↦ λ e. ap (λ o. option_or o (least_by f (t + 1) n)) (ap f ((unsigned_Decides (t + 1) v).0 e) ∙ at)
      | false ↦ λ e.
          let before : t + 1 < v = apart (t + 1) v (omega arith) e in
          ap (λ o. option_or o (least_by f (t + 1) n)) (none (t + 1) before) ∙ least_by-at f v x at none (t + 1) n before (omega arith)
    ] refl
  where
    apart : (a b : ℕ) → a ≤ b → (a == b) ≡ false → a < b
    apart a b le e = elim (nat_le b a) as (λ t. nat_le b a ≡ t → a < b) [
      | true ↦ λ t. absurd (clashing (sym ((unsigned_Decides a b).1 (let ge = leb-true b a t in omega arith)) ∙ e))
      | false ↦ λ t. leb-false b a t
    ] refl
      where
        clashing : true ≡ false → ⊥
        clashing h = cc

-- a place after another is at its version or later
pub from_less : (p q : Place) → place_cmp p q ≡ Less → p.0 ≤ q.0
from_less p q e = from (nat_cmp p.0 q.0) refl
  where
    from : (r : Ordering) → nat_cmp p.0 q.0 ≡ r → p.0 ≤ q.0
    from Less t = let lt : p.0 < q.0 = ranked p.0 q.0 Less (sym t) in omega arith
    from Equal t = let is : p.0 ≡ q.0 = ranked p.0 q.0 Equal (sym t) in omega arith
    from Greater t = absurd (greater (sym (ap (λ r. ordering_then r (bytes_cmp p.1 q.1)) t) ∙ e))
      where
        greater : Greater ≡ Less → ⊥
        greater h = cc

-- places of two versions are two
two_versions : (w v : ℕ) (q k : List ℕ) → (w ≡ v → ⊥) → is_at (place_cmp (w, q)) (v, k) ≡ false
two_versions w v q k ne = from (nat_cmp w v) refl
  where
    from : (r : Ordering) → nat_cmp w v ≡ r → is_eq (ordering_then r (bytes_cmp q k)) ≡ false
    from Less e = refl
    from Equal e = absurd (ne (ranked w v Equal (sym e)))
    from Greater e = refl

-- no row at a version below that of a place that all are after
none_earlier : (p : Place) (es : List (Place × Option (List ℕ))) → AllByRecursion (λ y. place_cmp p y ≡ Less) (keys_of es) → (w : ℕ) (q : List ℕ) → w < p.0 → lookup (is_at (place_cmp (w, q))) es ≡ None
none_earlier p [] h w q lt = refl
none_earlier p (e ∷ es) h w q lt =
    let le = from_less p e.0 h.0 in
    ap (λ b. cond b (Some e.1) (lookup (is_at (place_cmp (w, q))) es)) (two_versions w e.0.0 q e.0.1 (λ is. omega arith))
    ∙ none_earlier p es h.1 w q lt

-- no entry is above the version where no look-up finds one
pub bounded : (b : ℕ) (es : List (Place × Option (List ℕ))) → ((w : ℕ) (q : List ℕ) → IsSome (lookup (is_at (place_cmp (w, q))) es) → w ≤ b) → AllByRecursion (λ y. y.0 ≤ b) (keys_of es)
bounded b [] h = tt
bounded b (e ∷ es) h = (
  h e.0.0 e.0.1 (ap (λ r. is_some (cond (is_eq r) (Some e.1) (lookup (is_at (place_cmp e.0)) es))) (tied_itself place_total e.0)),
  bounded b es (λ w q some. h w q (later (is_at (place_cmp (w, q)) e.0) (lookup (is_at (place_cmp (w, q))) es) some)),
)
  where
    later : (t : Bool) (o : Option (Option (List ℕ))) → IsSome o → IsSome (cond t (Some e.1) o)
    later true o some = refl
    later false o some = some

-- the first row of a key among the rows above t is its row of least version above t
pub first_row-least : (above : Place → Bool) (t n : ℕ) (q : List ℕ) → ((p : Place) → above p ≡ not (nat_le p.0 t)) → (es : List (Place × Option (List ℕ))) → IsStrictlySortedBy place_cmp (keys_of es) → AllByRecursion (λ y. y.0 ≤ t + n) (keys_of es)
    → first_row q (filter (λ e. above e.0) es) ≡ least_by (λ w. lookup (is_at (place_cmp (w, q))) es) t n
first_row-least above t n q is [] sorted le = sym (least_by-none (λ w. None) t n (λ w. refl))
first_row-least above t n q is (e ∷ es) sorted le =
    let rest = first_row-least above t n q is es (sorted_tail place_cmp e.0 (keys_of es) sorted) le.1 in
    let more = filter (λ (f : Place × Option (List ℕ)). above f.0) es in
    let f = λ (w : ℕ). cond (is_at (place_cmp (w, q)) e.0) (Some e.1) (lookup (is_at (place_cmp (w, q))) es) in
    ap (λ b. first_row q (cond b (e ∷ more) more)) (is e.0)
    ∙ elim (nat_le e.0.0 t) as (λ b. nat_le e.0.0 t ≡ b → first_row q (cond (not b) (e ∷ more) more) ≡ least_by f t n) [
      | true ↦ λ below.
          let at_most = leb-true e.0.0 t below in
          rest ∙ sym (least_by-same f (λ w. lookup (is_at (place_cmp (w, q))) es) t n (λ w lt. ap (λ b. cond b (Some e.1) (lookup (is_at (place_cmp (w, q))) es)) (two_versions w e.0.0 q e.0.1 (λ same. omega arith))))
      | false ↦ λ beyond.
          let lt = leb-false e.0.0 t beyond in
          elim (is_same e.0.1 q) as (λ b. is_same e.0.1 q ≡ b → cond b (Some e.1) (first_row q more) ≡ least_by f t n) [
            | true ↦ λ same.
                sym (least_by-at f e.0.0 e.1
                (ap (λ k. cond (is_at (place_cmp (e.0.0, k)) e.0) (Some e.1) (lookup (is_at (place_cmp (e.0.0, q))) es)) (sym (one_key bytes_exact e.0.1 q same)) ∙ ap (λ r. cond (is_eq r) (Some e.1) (lookup (is_at (place_cmp (e.0.0, q))) es)) (tied_itself place_total e.0))
                (λ w before. ap (λ b. cond b (Some e.1) (lookup (is_at (place_cmp (w, q))) es)) (two_versions w e.0.0 q e.0.1 (λ is. omega arith)) ∙ none_earlier e.0 es (sorted_head place_cmp e.0 (keys_of es) sorted) w q before)
                t n lt le.0)
            | false ↦ λ other.
                rest ∙ sym (least_by-same f (λ w. lookup (is_at (place_cmp (w, q))) es) t n (λ w lt. ap (λ b. cond b (Some e.1) (lookup (is_at (place_cmp (w, q))) es)) (is_eq_second (nat_cmp w e.0.0) (bytes_cmp q e.0.1) (is_same-comm q e.0.1 ∙ other))))
          ] refl
    ] refl

-- a place is at or after the first of the version after t where it is above t
above_from : (t : ℕ) (p : Place) → (is_le (place_cmp (t + 1, []) p) && true) ≡ not (nat_le p.0 t)
above_from t p = from (nat_cmp (t + 1) p.0) refl
  where
    least : (k : List ℕ) → is_le (bytes_cmp [] k) ≡ true
    least [] = refl
    least (x ∷ k) = refl

    at_most : p.0 ≤ t → nat_le p.0 t ≡ true
    at_most le = elim (nat_le p.0 t) as (λ b. nat_le p.0 t ≡ b → b ≡ true) [ true ↦ λ e. refl | false ↦ λ e. absurd (let lt = leb-false p.0 t e in omega arith) ] refl

    beyond : t < p.0 → nat_le p.0 t ≡ false
    beyond lt = elim (nat_le p.0 t) as (λ b. nat_le p.0 t ≡ b → b ≡ false) [ true ↦ λ e. absurd (let le = leb-true p.0 t e in omega arith) | false ↦ λ e. refl ] refl

    from : (r : Ordering) → nat_cmp (t + 1) p.0 ≡ r → (is_le (ordering_then r (bytes_cmp [] p.1)) && true) ≡ not (nat_le p.0 t)
    from Less e = let lt : t + 1 < p.0 = ranked (t + 1) p.0 Less (sym e) in sym (ap not (beyond (omega arith)))
    from Equal e = let is : t + 1 ≡ p.0 = ranked (t + 1) p.0 Equal (sym e) in ap (λ b. b && true) (least p.1) ∙ sym (ap not (beyond (omega arith)))
    from Greater e = let lt : p.0 < t + 1 = ranked (t + 1) p.0 Greater (sym e) in sym (ap not (at_most (omega arith)))

pub first_rows : (rows : Rows) (t n : ℕ) (q : List ℕ) → tree.IsOrdered place_cmp rows → IsUpTo rows (t + n)
    → first_row q (filter (λ e. is_le (place_cmp (t + 1, []) e.0) && true) rows.entries) ≡ least_row (map_of rows) q t n
first_rows rows t n q ordered upto =
    first_row-least (λ p. is_le (place_cmp (t + 1, []) p) && true) t n q (above_from t) rows.entries ordered (bounded (t + n) rows.entries upto)
    ∙ least_by-same (λ w. tree.get place_cmp rows (w, q)) (λ w. get (map_of rows) (w, q)) t n (λ w lt. sym (get-map_of place_total rows (w, q)))
    ∙ sym (least_row-by (map_of rows) q t n)

pub option_or_none : {X : Type 0} (o : Option X) → option_or o None ≡ o
option_or_none None = refl
option_or_none (Some x) = refl
