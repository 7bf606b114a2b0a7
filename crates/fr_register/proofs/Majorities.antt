-- Two majorities of the same cells share a cell.
use Rattle.std.proofs.Common.{◌≡◌, ◌≢◌, ℕ, zero, suc, ◌+◌, ◌<◌, ◌≤◌, Bool, true, false, cond, ◌&&◌, nat_eq, List, [], ◌∷◌, length, refl, sym, subst, inl, inr, arith}
use Rattle.std.specs.List.{All, list_any, IsDistinct}
use Rattle.std.proofs.lemmas.Bool.{cases_eq, eq-eqb, ne_eqb, and_parts, cases_Bool}
use Rattle.std.proofs.lemmas.List.Elements.{All-head, All-tail, All-from_recursion}
use Rattle.std.proofs.lemmas.List.Folds.{list_any_none}
use Rattle.std.proofs.lemmas.Map.Keys.{IsDistinct-head, IsDistinct-tail}
use Rattle.fr_base.proofs.ListLemmas.{All-found}
use Rattle.fr_register.specs.Chosen.{IsMajority}

-- how many numbers below n pass a test
abbrev count : (ℕ → Bool) → ℕ → ℕ
count p zero = 0
count p (suc n) = cond (p n) 1 0 + count p n

both_step : (a b : Bool) (x y z n : ℕ) → x + y ≤ n + z → (cond a 1 0 + x) + (cond b 1 0 + y) ≤ suc n + (cond (a && b) 1 0 + z)
both_step true true x y z n h = omega arith
both_step true false x y z n h = omega arith
both_step false true x y z n h = omega arith
both_step false false x y z n h = omega arith

count_both : (p q : ℕ → Bool) (n : ℕ) → count p n + count q n ≤ n + count (λ i. p i && q i) n
count_both p q zero = omega arith
count_both p q (suc n) = both_step (p n) (q n) (count p n) (count q n) (count (λ i. p i && q i) n) n (count_both p q n)

count_found : (p : ℕ → Bool) (n : ℕ) → 0 < count p n → (i : ℕ) × (i < n) × (p i ≡ true)
count_found p zero h = absurd (omega (arith, h))
count_found p (suc n) h = elim (cases_Bool (p n)) [
  | inl passes ↦ (n, omega arith, passes)
  | inr fails ↦ let k = rw fails at h in let rest = count_found p n (omega (arith, k)) in (rest.0, omega (arith, rest.1), rest.2)
]

count_same : (p q : ℕ → Bool) (n : ℕ) → ((i : ℕ) → i < n → q i ≡ p i) → count q n ≡ count p n
count_same p q zero h = refl
count_same p q (suc n) h =
    let e = h n (omega arith) in
    let r = count_same p q n (λ i l. h i (omega arith)) in
    rw (e, r) refl

-- one number more passes
count_more : (p q : ℕ → Bool) (x n : ℕ) → x < n → p x ≡ false → q x ≡ true → ((i : ℕ) → i ≢ x → q i ≡ p i) → count q n ≡ suc (count p n)
count_more p q x zero l fails passes same = absurd (omega (arith, l))
count_more p q x (suc n) l fails passes same = elim (cases_eq x n) [
  | inl e ↦
      let fails' = subst (λ k. p k ≡ false) e fails in
      let passes' = subst (λ k. q k ≡ true) e passes in
      let r = count_same p q n (λ i b. same i (omega arith)) in
      rw (fails', passes', r) (omega arith)
  | inr ne ↦
      let e = same n (λ k. ne (sym k)) in
      let r = count_more p q x n (omega arith) fails passes same in
      rw (e, r) (omega arith)
]

-- distinct numbers below n are no more than those below n that the list has
length_count : (who : List ℕ) (n : ℕ) → IsDistinct nat_eq who → All (λ i. i < n) who → length who ≤ count (λ i. list_any (nat_eq i) who) n
length_count [] n d b = omega arith
length_count (x ∷ xs) n d b =
    let apart = list_any_none (nat_eq x) xs (All-from_recursion (λ y. nat_eq x y ≡ false) xs (IsDistinct-head nat_eq x xs d)) in
    let rest = length_count xs n (IsDistinct-tail nat_eq x xs d) (All-tail (λ i. i < n) x xs b) in
    let more : count (λ i. list_any (nat_eq i) (x ∷ xs)) n ≡ suc (count (λ i. list_any (nat_eq i) xs) n) =
    count_more (λ i. list_any (nat_eq i) xs) (λ i. list_any (nat_eq i) (x ∷ xs)) x n (All-head (λ i. i < n) x xs b) apart
    (rw (eq-eqb x x refl) refl) (λ i ne. rw (ne_eqb i x ne) refl) in
    omega (arith, more, rest)

-- what holds at each cell of one majority, and what holds at each of another, hold together at some cell
pub shared : (n : ℕ) (P Q : ℕ → Type 0) (p q : List ℕ) → IsMajority n p → IsMajority n q → All P p → All Q q → (i : ℕ) × P i × Q i
shared n P Q p q mp mq ap' aq =
    let one = length_count p n mp.distinct mp.below in
    let two = length_count q n mq.distinct mq.below in
    let both = count_both (λ i. list_any (nat_eq i) p) (λ i. list_any (nat_eq i) q) n in
    let some : 0 < count (λ i. list_any (nat_eq i) p && list_any (nat_eq i) q) n = omega (arith, one, two, both, mp.more, mq.more) in
    let found = count_found (λ i. list_any (nat_eq i) p && list_any (nat_eq i) q) n some in
    let parts = and_parts (list_any (nat_eq found.0) p) (list_any (nat_eq found.0) q) found.2 in
    (found.0, All-found P found.0 p parts.0 ap', All-found Q found.0 q parts.1 aq)
