-- Items of a list that pass a test, at some places.
use Rattle.std.proofs.Common.{◌≡◌, ◌<◌, ◌≤◌, ◌-◌, ℕ, zero, suc, Bool, true, false, ◌||◌, List, [], ◌∷◌, ◌++◌, ◌⊎◌, inl, inr, Some, refl, sym, ap, ◌∙◌, length, drop, arith}
use Rattle.std.specs.Prelude.{slice_get}
use Rattle.std.specs.List.{list_any}
use Rattle.std.proofs.lemmas.Bool.{or_left, or_right}
use Rattle.fr_world_turns.specs.Places.{holds_at}

or_either : (x y : Bool) → (x || y) ≡ true → (x ≡ true) ⊎ (y ≡ true)
or_either true y e = inl refl
or_either false y e = inr e

-- what passes one test passes another
pub any_weaker : {X : Type 0} (f g : X → Bool) → ((x : X) → f x ≡ true → g x ≡ true) → (xs : List X) → list_any f xs ≡ true → list_any g xs ≡ true
any_weaker f g h [] e = absurd (cc)
any_weaker f g h (x ∷ xs) e = elim (or_either (f x) (list_any f xs) e) [
  | inl k ↦ or_left (g x) (list_any g xs) (h x k)
  | inr k ↦ or_right (g x) (list_any g xs) (any_weaker f g h xs k)
]

module _ {X : Type 0} (p : X → Bool) where
  -- an item at a place is one of the list
  pub one_of : (xs : List X) (i : ℕ) → holds_at p xs i ≡ true → list_any p xs ≡ true
  one_of [] i e = absurd (cc)
  one_of (x ∷ xs) zero e = or_left (p x) (list_any p xs) e
  one_of (x ∷ xs) (suc i) e = or_right (p x) (list_any p xs) (one_of xs i e)

  -- an item at one of some places is one of the list
  pub some_of : (xs : List X) (places : List ℕ) → list_any (holds_at p xs) places ≡ true → list_any p xs ≡ true
  some_of xs [] e = absurd (cc)
  some_of xs (i ∷ places) e = elim (or_either (holds_at p xs i) (list_any (holds_at p xs) places) e) [
    | inl k ↦ one_of xs i k
    | inr k ↦ some_of xs places k
  ]

  -- an item stays at its place as one is added at the end
  pub at_later : (xs : List X) (y : X) (i : ℕ) → holds_at p xs i ≡ true → holds_at p (xs ++ (y ∷ [])) i ≡ true
  at_later [] y i e = absurd (cc)
  at_later (x ∷ xs) y zero e = e
  at_later (x ∷ xs) y (suc i) e = at_later xs y i e

  -- an item that passes is among the first n, or behind them
  split : (xs : List X) (n : ℕ) (found : Bool) → ((i : ℕ) (x : X) → i < n → slice_get xs i ≡ Some x → p x ≡ true → found ≡ true) → list_any p xs ≡ true → (found || list_any p (drop n xs)) ≡ true
  split [] n found h e = absurd (cc)
  split (x ∷ xs) zero found h e = or_right found (list_any p (x ∷ xs)) e
  split (x ∷ xs) (suc n) found h e = elim (or_either (p x) (list_any p xs) e) [
    | inl k ↦ or_left found (list_any p (drop n xs)) (h 0 x (omega arith) refl k)
    | inr k ↦ split xs n found (λ i y l is m. h (suc i) y (omega (arith, l)) is m) k
  ]

  behind : (xs : List X) (n : ℕ) → list_any p (drop n xs) ≡ true → list_any p xs ≡ true
  behind [] zero e = e
  behind [] (suc n) e = e
  behind (x ∷ xs) zero e = e
  behind (x ∷ xs) (suc n) e = or_right (p x) (list_any p xs) (behind xs n e)

  -- where each of the first n items that passes is found at some places, these and what is behind tell whether one passes
  pub found_or_behind : (xs : List X) (n : ℕ) (places : List ℕ) → ((i : ℕ) (x : X) → i < n → slice_get xs i ≡ Some x → p x ≡ true → list_any (holds_at p xs) places ≡ true)
      → (list_any (holds_at p xs) places || list_any p (drop n xs)) ≡ list_any p xs
  found_or_behind xs n places h = both (list_any (holds_at p xs) places) (list_any p (drop n xs)) (list_any p xs) (some_of xs places) (behind xs n) (split xs n (list_any (holds_at p xs) places) h)
    where
      both : (a b c : Bool) → (a ≡ true → c ≡ true) → (b ≡ true → c ≡ true) → (c ≡ true → (a || b) ≡ true) → (a || b) ≡ c
      both true b c f g k = sym (f refl)
      both false true c f g k = sym (g refl)
      both false false true f g k = k refl
      both false false false f g k = refl

  -- no item passes from a place on
  abbrev pub NoneFrom : List X → ℕ → Type 0
  NoneFrom xs n = (i : ℕ) → n ≤ i → i < length xs → holds_at p xs i ≡ false

  -- nor from the place before
  pub none_before : (xs : List X) (n : ℕ) → holds_at p xs (n - 1) ≡ false → NoneFrom xs n → NoneFrom xs (n - 1)
  none_before xs n e none i l within = elim (below_or_from n i l) [
    | inl k ↦ ap (holds_at p xs) k ∙ e
    | inr k ↦ none i k within
  ]
    where
      below_or_from : (n i : ℕ) → n - 1 ≤ i → (i ≡ n - 1) ⊎ (n ≤ i)
      below_or_from zero i l = inr (omega arith)
      below_or_from (suc n) i l = elim (equal_or_less n i (omega (arith, l))) [
        | inl k ↦ inl (omega (arith, k))
        | inr k ↦ inr (omega (arith, k))
      ]
        where
          equal_or_less : (n i : ℕ) → n ≤ i → (n ≡ i) ⊎ (n < i)
          equal_or_less zero zero l = inl refl
          equal_or_less zero (suc i) l = inr (omega arith)
          equal_or_less (suc n) zero l = absurd (let k : ⊥ = omega (arith, l) in k)
          equal_or_less (suc n) (suc i) l = elim (equal_or_less n i (omega (arith, l))) [
            | inl k ↦ inl (ap suc k)
            | inr k ↦ inr (omega (arith, k))
          ]

  -- no item passes
  none_of_all : (xs : List X) → NoneFrom xs 0 → list_any p xs ≡ false
  none_of_all [] none = refl
  none_of_all (x ∷ xs) none = ap (λ b. b || list_any p xs) (none 0 (omega arith) (omega arith)) ∙ none_of_all xs (λ i l within. none (suc i) (omega arith) (omega (arith, within)))

  pub none_of : (xs : List X) (n : ℕ) → n ≤ 0 → NoneFrom xs n → list_any p xs ≡ false
  none_of xs n first none = none_of_all xs (λ i l within. none i (omega (arith, first)) within)
