-- How many of the numbers below n pass a test.
use Rattle.std.proofs.Common.{◌≡◌, ◌≢◌, ℕ, zero, suc, ◌+◌, ◌<◌, ◌≤◌, Bool, true, false, cond, ◌&&◌, not, nat_eq, List, [], ◌∷◌, ◌++◌, length, refl, sym, ◌∙◌, ap, subst, inl, inr, arith, add-zero}
use Rattle.std.specs.List.{All, Contains, count_by, list_any, range_with_len, IsDistinct}
use Rattle.std.proofs.lemmas.Bool.{cases_eq, or_cases, eqb-true, eq-eqb, ne_eqb, cases_Bool, or_left, or_right}
use Rattle.std.proofs.lemmas.List.Elements.{All-head, All-tail, All-from_recursion}
use Rattle.std.proofs.lemmas.List.Folds.{list_any_none}
use Rattle.std.proofs.lemmas.List.Sums.{sum_by-append}
use Rattle.std.proofs.lemmas.Map.Keys.{IsDistinct-head, IsDistinct-tail}
use Rattle.fr_tags.specs.Placement.{is_among}

-- how many numbers below n pass a test
abbrev pub count : (ℕ → Bool) → ℕ → ℕ
count p zero = 0
count p (suc n) = cond (p n) 1 0 + count p n

-- one number more
pub range_more : (a n : ℕ) → range_with_len a (suc n) ≡ range_with_len a n ++ (a + n) ∷ []
range_more a zero = ap (λ x. x ∷ []) (sym (add-zero a))
range_more a (suc n) = ap (λ xs. a ∷ xs) (range_more (a + 1) n ∙ ap (λ x. range_with_len (a + 1) n ++ x ∷ []) (omega arith))

pub count_by-range : (p : ℕ → Bool) (n : ℕ) → count_by p (range_with_len 0 n) ≡ count p n
count_by-range p zero = refl
count_by-range p (suc n) =
    ap (count_by p) (range_more 0 n) ∙ sum_by-append (λ x. cond (p x) 1 0) (range_with_len 0 n) ((0 + n) ∷ [])
    ∙ last_one (count_by p (range_with_len 0 n)) (count p n) (p (0 + n)) (p n) (count_by-range p n) (ap p (omega arith))
  where
    last_one : (x y : ℕ) (a b : Bool) → x ≡ y → a ≡ b → x + (0 + cond a 1 0) ≡ cond b 1 0 + y
    last_one x y a b e d = rw (e, d) (omega arith)

both_step : (a b : Bool) (x y z n : ℕ) → x + y ≤ n + z → (cond a 1 0 + x) + (cond b 1 0 + y) ≤ suc n + (cond (a && b) 1 0 + z)
both_step true true x y z n h = omega arith
both_step true false x y z n h = omega arith
both_step false true x y z n h = omega arith
both_step false false x y z n h = omega arith

-- what two tests pass together, beyond n, is passed by both
pub count_both : (p q : ℕ → Bool) (n : ℕ) → count p n + count q n ≤ n + count (λ i. p i && q i) n
count_both p q zero = omega arith
count_both p q (suc n) = both_step (p n) (q n) (count p n) (count q n) (count (λ i. p i && q i) n) n (count_both p q n)

not_step : (a : Bool) (x y n : ℕ) → x + y ≡ n → (cond a 1 0 + x) + (cond (not a) 1 0 + y) ≡ suc n
not_step true x y n h = omega arith
not_step false x y n h = omega arith

-- each number passes a test or fails it
pub count_not : (p : ℕ → Bool) (n : ℕ) → count p n + count (λ i. not (p i)) n ≡ n
count_not p zero = omega arith
count_not p (suc n) = not_step (p n) (count p n) (count (λ i. not (p i)) n) n (count_not p n)

pub count_found : (p : ℕ → Bool) (n : ℕ) → 0 < count p n → (i : ℕ) × (i < n) × (p i ≡ true)
count_found p zero h = absurd (omega (arith, h))
count_found p (suc n) h = elim (cases_Bool (p n)) [
  | inl passes ↦ (n, omega arith, passes)
  | inr fails ↦ let k = rw fails at h in let rest = count_found p n (omega (arith, k)) in (rest.0, omega (arith, rest.1), rest.2)
]

count_same : (p q : ℕ → Bool) (n : ℕ) → ((i : ℕ) → i < n → q i ≡ p i) → count q n ≡ count p n
count_same p q zero h = refl
count_same p q (suc n) h =
    let e = h n (omega arith) in
    let r = count_same p q n (λ i l. h i (omega arith)) in
    rw (e, r) refl

count_none : (n : ℕ) → count (λ i. false) n ≡ 0
count_none zero = refl
count_none (suc n) = let r = count_none n in omega (arith, r)

-- one number more passes
count_more : (p q : ℕ → Bool) (x n : ℕ) → x < n → p x ≡ false → q x ≡ true → ((i : ℕ) → i ≢ x → q i ≡ p i) → count q n ≡ suc (count p n)
count_more p q x zero l fails passes same = absurd (omega (arith, l))
count_more p q x (suc n) l fails passes same = elim (cases_eq x n) [
  | inl e ↦
      let fails' = subst (λ k. p k ≡ false) e fails in
      let passes' = subst (λ k. q k ≡ true) e passes in
      let r = count_same p q n (λ i b. same i (omega arith)) in
      rw (fails', passes', r) (omega arith)
  | inr ne ↦
      let e = same n (λ k. ne (sym k)) in
      let r = count_more p q x n (omega arith) fails passes same in
      rw (e, r) (omega arith)
]

flips : (x y : ℕ) → nat_eq x y ≡ nat_eq y x
flips x y = elim (cases_eq x y) [
  | inl e ↦ eq-eqb x y e ∙ sym (eq-eqb y x (sym e))
  | inr ne ↦ ne_eqb x y ne ∙ sym (ne_eqb y x (λ e. ne (sym e)))
]

among_flips : (i : ℕ) (xs : List ℕ) → is_among xs i ≡ list_any (nat_eq i) xs
among_flips i [] = refl
among_flips i (x ∷ xs) = rw (flips x i, among_flips i xs) refl

-- distinct numbers below n are as many as the numbers below n that stand among them
pub count_among : (xs : List ℕ) (n : ℕ) → IsDistinct nat_eq xs → All (λ i. i < n) xs → count (is_among xs) n ≡ length xs
count_among [] n d b = count_none n
count_among (x ∷ xs) n d b =
    let apart : is_among xs x ≡ false = among_flips x xs ∙ list_any_none (nat_eq x) xs (All-from_recursion (λ y. nat_eq x y ≡ false) xs (IsDistinct-head nat_eq x xs d)) in
    let rest = count_among xs n (IsDistinct-tail nat_eq x xs d) (All-tail (λ i. i < n) x xs b) in
    let more : count (is_among (x ∷ xs)) n ≡ suc (count (is_among xs) n) =
    count_more (is_among xs) (is_among (x ∷ xs)) x n (All-head (λ i. i < n) x xs b) apart
    (rw (eq-eqb x x refl) refl) (λ i ne. rw (ne_eqb x i (λ e. ne (sym e))) refl) in
    omega (arith, more, rest)

pub Contains-from_among : (xs : List ℕ) (i : ℕ) → is_among xs i ≡ true → Contains xs i
Contains-from_among [] i h = absurd (cc)
Contains-from_among (x ∷ xs) i h = elim (or_cases (nat_eq x i) (is_among xs i) h) [
  | inl e ↦ (0, omega arith, eqb-true x i e)
  | inr r ↦ let rest = Contains-from_among xs i r in (suc rest.0, omega (arith, rest.1), rest.2)
]

pub among-from_Contains : (xs : List ℕ) (i : ℕ) → Contains xs i → is_among xs i ≡ true
among-from_Contains [] i (k, l, e) = absurd (omega (arith, l))
among-from_Contains (x ∷ xs) i (zero, l, e) = or_left (nat_eq x i) (is_among xs i) (eq-eqb x i e)
among-from_Contains (x ∷ xs) i (suc k, l, e) = or_right (nat_eq x i) (is_among xs i) (among-from_Contains xs i (k, omega (arith, l), e))
