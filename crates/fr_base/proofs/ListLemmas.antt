-- What lists have, if they are longer by one, and numbers of a range.
use Rattle.std.proofs.Common.{◌≡◌, ℕ, zero, suc, ◌+◌, ◌<◌, Bool, true, false, nat_eq, ◌||◌, List, [], ◌∷◌, ◌++◌, length, map, reverse, slice_get, Some, inl, inr, ◌⊎◌, refl, sym, subst, arith}
use Rattle.std.specs.Prelude.{filter}
use Rattle.std.specs.List.{All, Contains, list_any, AllByRecursion, IsDistinct, range_with_len}
use Rattle.std.proofs.lemmas.Bool.{eqb-true}
use Rattle.std.proofs.lemmas.List.{reverse-append}
use Rattle.std.proofs.lemmas.List.Elements.{All-head, All-tail, All-map, All-filter, All-from_get_or, Contains-append_left, Contains-append_right, Contains-append_cases, Contains-push, Contains-push_cases}
use Rattle.std.proofs.lemmas.List.FromFn.{get_or-range_with_len, length-range_with_len}
use Rattle.std.proofs.lemmas.Map.Keys.{IsDistinct-cons}
use Rattle.std.proofs.lemmas.Map.Steps.{length-le_from_distinct_below}

-- ---- what a list with one more item in front has

pub Contains-here : {X : Type 0} (x : X) (xs : List X) → Contains (x ∷ xs) x
Contains-here x xs = Contains-append_left (x ∷ []) xs x (Contains-push [] x)

pub Contains-later : {X : Type 0} (y : X) (xs : List X) (x : X) → Contains xs x → Contains (y ∷ xs) x
Contains-later y xs x h = Contains-append_right (y ∷ []) xs x h

pub Contains-none : {X : Type 0} {x : X} → Contains [] x → ⊥
Contains-none h = omega (arith, h.1)

pub Contains-cases : {X : Type 0} (y : X) (xs : List X) (x : X) → Contains (y ∷ xs) x → (y ≡ x) ⊎ Contains xs x
Contains-cases y xs x h = elim (Contains-append_cases (y ∷ []) xs x h) [
  | inl one ↦ elim (Contains-push_cases [] y x one) [ inl nothing ↦ absurd (Contains-none nothing) | inr e ↦ inl e ]
  | inr rest ↦ inr rest
]

-- ---- what a list with one more item at its end has

pub slice_get-more : {X : Type 0} (xs : List X) (y : X) (i : ℕ) (x : X) → slice_get xs i ≡ Some x → slice_get (xs ++ y ∷ []) i ≡ Some x
slice_get-more [] y i x e = absurd (cc)
slice_get-more (z ∷ xs) y zero x e = e
slice_get-more (z ∷ xs) y (suc i) x e = slice_get-more xs y i x e

pub slice_get-last : {X : Type 0} (xs : List X) (y : X) → slice_get (xs ++ y ∷ []) (length xs) ≡ Some y
slice_get-last [] y = refl
slice_get-last (x ∷ xs) y = slice_get-last xs y

pub reverse-cons : {X : Type 0} (x : X) (xs : List X) → reverse (x ∷ xs) ≡ reverse xs ++ x ∷ []
reverse-cons x xs = reverse-append (x ∷ []) xs

-- ---- what holds of each number of a range

pub All-range : (P : ℕ → Type 0) (first n : ℕ) → ((i : ℕ) → i < n → P (first + i)) → All P (range_with_len first n)
All-range P first n each =
    All-from_get_or P (range_with_len first n) 0 (λ i l.
    let k = length-range_with_len first n in
    let less : i < n = omega (arith, k, l) in
    subst P (sym (get_or-range_with_len first n i 0 less)) (each i less))

-- what holds of what f makes of each number below n holds of what it makes of those that pass a test
pub All-made : {Y : Type 0} (P : Y → Type 0) (f : ℕ → Y) (test : ℕ → Bool) (n : ℕ) → ((i : ℕ) → i < n → P (f i)) → All P (map f (filter test (range_with_len 0 n)))
All-made P f test n each =
    All-map P f (filter test (range_with_len 0 n))
    (All-filter test (λ x. P (f x)) (range_with_len 0 n) (All-range (λ x. P (f x)) 0 n (λ i l. subst (λ j. P (f j)) (zero_more i) (each i l))))
  where
    zero_more : (i : ℕ) → i ≡ 0 + i
    zero_more i = omega arith

-- ---- numbers that a test finds

-- what holds of each of the list holds of a number that is found in it
pub All-found : (P : ℕ → Type 0) (q : ℕ) (xs : List ℕ) → list_any (nat_eq q) xs ≡ true → All P xs → P q
All-found P q [] e all = absurd (cc)
All-found P q (x ∷ xs) e all = go (λ j. All-found P q xs j (All-tail P x xs all)) (nat_eq q x) refl e
  where
    go : (list_any (nat_eq q) xs ≡ true → P q) → (b : Bool) → nat_eq q x ≡ b → (b || list_any (nat_eq q) xs) ≡ true → P q
    go rest true k j = subst P (sym (eqb-true q x k)) (All-head P x xs all)
    go rest false k j = rest j

none_equal : (q : ℕ) (xs : List ℕ) → list_any (nat_eq q) xs ≡ false → AllByRecursion (λ y. nat_eq q y ≡ false) xs
none_equal q [] e = tt
none_equal q (x ∷ xs) e = go (λ j. none_equal q xs j) (nat_eq q x) refl e
  where
    go : (list_any (nat_eq q) xs ≡ false → AllByRecursion (λ y. nat_eq q y ≡ false) xs) → (b : Bool) → nat_eq q x ≡ b → (b || list_any (nat_eq q) xs) ≡ false → AllByRecursion (λ y. nat_eq q y ≡ false) (x ∷ xs)
    go rest true k j = absurd (cc)
    go rest false k j = (k, rest j)

-- of m distinct numbers below m each number below m is one
pub each_is_there : (P : ℕ → Type 0) (m : ℕ) (xs : List ℕ) → IsDistinct nat_eq xs → All (λ i. (i < m) × P i) xs → length xs ≡ m → (q : ℕ) → q < m → P q
each_is_there P m xs distinct all many q below = go (list_any (nat_eq q) xs) refl
  where
    within : (x : ℕ) → list_any (nat_eq x) (q ∷ xs) ≡ true → x < m
    within x e = pick (nat_eq x q) refl e
      where
        pick : (b : Bool) → nat_eq x q ≡ b → (b || list_any (nat_eq x) xs) ≡ true → x < m
        pick true k j = subst (λ y. y < m) (sym (eqb-true x q k)) below
        pick false k j = (All-found (λ i. (i < m) × P i) x xs j all).0

    go : (b : Bool) → list_any (nat_eq q) xs ≡ b → P q
    go true k = (All-found (λ i. (i < m) × P i) q xs k all).1
    go false k = (let n = length-le_from_distinct_below (q ∷ xs) m (IsDistinct-cons nat_eq q xs (none_equal q xs k) distinct) within in absurd (omega (arith, n, many)))
