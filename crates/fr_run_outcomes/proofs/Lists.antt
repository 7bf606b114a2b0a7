-- What is left to be done of some numbers is no more once more is done.
use Rattle.std.proofs.Common.{◌≡◌, ℕ, ◌+◌, ◌<◌, Bool, true, false, cond, not, ◌||◌, map, filter, List, [], ◌∷◌, ◌++◌, inl, inr, refl, sym, ◌∙◌, ap, subst, arith}
use Rattle.std.specs.Prelude.{flat_map}
use Rattle.std.specs.List.{Contains, list_any, range_with_len}
use Rattle.std.proofs.lemmas.Bool.{true≢false}
use Rattle.std.proofs.lemmas.List.Elements.{Contains-append_left, Contains-append_right, Contains-append_cases}
use Rattle.fr_epoch.specs.Asks.{left}
use Rattle.std.proofs.lemmas.List.FromFn.{length-range_with_len, get_or-range_with_len}
use Rattle.fr_run_headline.proofs.Places.{filter_has}
use Rattle.fr_run.proofs.Cells.{Contains-here, Contains-later, Contains-none, Contains-cases}

-- a test that more passes leaves less
filtered : (p q : ℕ → Bool) (xs : List ℕ) → ((i : ℕ) → p i ≡ true → q i ≡ true) → (i : ℕ) → Contains (filter (λ x. not (q x)) xs) i → Contains (filter (λ x. not (p x)) xs) i
filtered p q [] more i k = k
filtered p q (x ∷ xs) more i k = go (p x) refl (q x) refl k (filtered p q xs more i)
  where
    go : (s : Bool) → p x ≡ s → (t : Bool) → q x ≡ t → Contains (cond (not t) (x ∷ filter (λ y. not (q y)) xs) (filter (λ y. not (q y)) xs)) i
        → (Contains (filter (λ y. not (q y)) xs) i → Contains (filter (λ y. not (p y)) xs) i) → Contains (cond (not s) (x ∷ filter (λ y. not (p y)) xs) (filter (λ y. not (p y)) xs)) i
    go true e true f k rest = rest k
    go true e false f k rest = absurd (true≢false (sym (more x e) ∙ f))
    go false e true f k rest = Contains-later x (filter (λ y. not (p y)) xs) i (rest k)
    go false e false f k rest = elim (Contains-cases x (filter (λ y. not (q y)) xs) i k) [
      | inl same ↦ subst (λ z. Contains (x ∷ filter (λ y. not (p y)) xs) z) same (Contains-here x (filter (λ y. not (p y)) xs))
      | inr later ↦ Contains-later x (filter (λ y. not (p y)) xs) i (rest later)
    ]

-- so it is of the numbers below one
pub left_less : (n : ℕ) (p q : ℕ → Bool) → ((i : ℕ) → p i ≡ true → q i ≡ true) → (i : ℕ) → Contains (left n q) i → Contains (left n p) i
left_less n p q more i k = filtered p q (range_with_len 0 n) more i k

pub in_range : (n i : ℕ) → i < n → Contains (range_with_len 0 n) i
in_range n i l = (i, (let e = length-range_with_len 0 n in omega (arith, e, l)), (let e = get_or-range_with_len 0 n i i l in e ∙ (let z : 0 + i ≡ i = omega arith in z)))

-- a number that a test does not pass is left
pub left_has : (n : ℕ) (p : ℕ → Bool) (i : ℕ) → i < n → p i ≡ false → Contains (left n p) i
left_has n p i l e = filter_has (λ x. not (p x)) (range_with_len 0 n) i (in_range n i l) (ap not e)

-- and of what is made of each
pub map_from : {X : Type 0} (f : ℕ → X) (xs : List ℕ) (x : X) → Contains (map f xs) x → (i : ℕ) × Contains xs i × (f i ≡ x)
map_from f [] x k = absurd (Contains-none k)
map_from f (y ∷ xs) x k = elim (Contains-cases (f y) (map f xs) x k) [
  | inl same ↦ (y, Contains-here y xs, same)
  | inr later ↦ (let r = map_from f xs x later in (r.0, Contains-later y xs r.0 r.1, r.2))
]

pub map_has : {X : Type 0} (f : ℕ → X) (xs : List ℕ) (i : ℕ) → Contains xs i → Contains (map f xs) (f i)
map_has f [] i k = absurd (Contains-none k)
map_has f (y ∷ xs) i k = elim (Contains-cases y xs i k) [
  | inl same ↦ subst (λ z. Contains (f y ∷ map f xs) (f z)) same (Contains-here (f y) (map f xs))
  | inr later ↦ Contains-later (f y) (map f xs) (f i) (map_has f xs i later)
]

pub map_less : {X : Type 0} (f : ℕ → X) (xs ys : List ℕ) → ((i : ℕ) → Contains ys i → Contains xs i) → (x : X) → Contains (map f ys) x → Contains (map f xs) x
map_less f xs ys less x k = let r = map_from f ys x k in subst (Contains (map f xs)) r.2 (map_has f xs r.0 (less r.0 r.1))

-- what some number gives
pub flat_from : {X : Type 0} (f : ℕ → List X) (ts : List ℕ) (x : X) → Contains (flat_map f ts) x → (t : ℕ) × Contains ts t × Contains (f t) x
flat_from f [] x k = absurd (Contains-none k)
flat_from f (t ∷ ts) x k = elim (Contains-append_cases (f t) (flat_map f ts) x k) [
  | inl here ↦ (t, Contains-here t ts, here)
  | inr later ↦ (let r = flat_from f ts x later in (r.0, Contains-later t ts r.0 r.1, r.2))
]

pub flat_has : {X : Type 0} (f : ℕ → List X) (ts : List ℕ) (t : ℕ) (x : X) → Contains ts t → Contains (f t) x → Contains (flat_map f ts) x
flat_has f [] t x k m = absurd (Contains-none k)
flat_has f (u ∷ ts) t x k m = elim (Contains-cases u ts t k) [
  | inl same ↦ Contains-append_left (f u) (flat_map f ts) x (subst (λ z. Contains (f z) x) (sym same) m)
  | inr later ↦ Contains-append_right (f u) (flat_map f ts) x (flat_has f ts t x later m)
]

-- what is in a list is in one that goes on from it
pub any_more : {X : Type 0} (p : X → Bool) (xs ys : List X) → list_any p xs ≡ true → list_any p (xs ++ ys) ≡ true
any_more p [] ys e = absurd (true≢false (sym e))
any_more p (x ∷ xs) ys e = go (p x) e (any_more p xs ys)
  where
    go : (b : Bool) → (b || list_any p xs) ≡ true → (list_any p xs ≡ true → list_any p (xs ++ ys) ≡ true) → (b || list_any p (xs ++ ys)) ≡ true
    go true k rest = refl
    go false k rest = rest k
