-- How many logs are among some.
use Rattle.std.proofs.Common.{◌≡◌, ℕ, zero, suc, ◌+◌, ◌<◌, ◌≤◌, Bool, true, false, cond, ◌==◌, ◌||◌, nat_eq, map, List, [], ◌∷◌, ◌++◌, length, inl, inr, refl, sym, ◌∙◌, ap, arith, add-zero}
use Rattle.std.specs.List.{All, Contains, count_by, list_any, range_with_len}
use Rattle.std.proofs.lemmas.Bool.{eq-eqb, eqb-true, ne_eqb, or_cases, or_left, or_right, true≢false}
use Rattle.std.proofs.lemmas.List.Sums.{sum_by-append}
use Rattle.fr_base.proofs.ListLemmas.{All-range}
use Rattle.fr_tags.specs.Placement.{is_among, log_count}

-- how many numbers below n pass a test
abbrev pub count : (ℕ → Bool) → ℕ → ℕ
count p zero = 0
count p (suc n) = cond (p n) 1 0 + count p n

-- one number more
range_more : (a n : ℕ) → range_with_len a (suc n) ≡ range_with_len a n ++ (a + n) ∷ []
range_more a zero = ap (λ x. x ∷ []) (sym (add-zero a))
range_more a (suc n) = ap (λ xs. a ∷ xs) (range_more (a + 1) n ∙ ap (λ x. range_with_len (a + 1) n ++ x ∷ []) (omega arith))

pub count_by-range : (p : ℕ → Bool) (n : ℕ) → count_by p (range_with_len 0 n) ≡ count p n
count_by-range p zero = refl
count_by-range p (suc n) =
    ap (count_by p) (range_more 0 n) ∙ sum_by-append (λ x. cond (p x) 1 0) (range_with_len 0 n) ((0 + n) ∷ [])
    ∙ last_one (count_by p (range_with_len 0 n)) (count p n) (p (0 + n)) (p n) (count_by-range p n) (ap p (omega arith))
  where
    last_one : (x y : ℕ) (a b : Bool) → x ≡ y → a ≡ b → x + (0 + cond a 1 0) ≡ cond b 1 0 + y
    last_one x y a b e d = rw (e, d) (omega arith)

pub Contains-from_among : (xs : List ℕ) (i : ℕ) → is_among xs i ≡ true → Contains xs i
Contains-from_among [] i h = absurd (cc)
Contains-from_among (x ∷ xs) i h = elim (or_cases (nat_eq x i) (is_among xs i) h) [
  | inl e ↦ (0, omega arith, eqb-true x i e)
  | inr r ↦ let rest = Contains-from_among xs i r in (suc rest.0, omega (arith, rest.1), rest.2)
]

pub among-from_Contains : (xs : List ℕ) (i : ℕ) → Contains xs i → is_among xs i ≡ true
among-from_Contains [] i (k, l, e) = absurd (omega (arith, l))
among-from_Contains (x ∷ xs) i (zero, l, e) = or_left (nat_eq x i) (is_among xs i) (eq-eqb x i e)
among-from_Contains (x ∷ xs) i (suc k, l, e) = or_right (nat_eq x i) (is_among xs i) (among-from_Contains xs i (k, omega (arith, l), e))

pub below_all : (n : ℕ) → All (λ i. i < n) (range_with_len 0 n)
below_all n = All-range (λ i. i < n) 0 n (λ i l. omega (arith, l))

count_step : (a b : Bool) (x y n : ℕ) → (a || b) ≡ true → n ≤ x + y → suc n ≤ (cond a 1 0 + x) + (cond b 1 0 + y)
count_step true true x y n e l = omega arith
count_step true false x y n e l = omega arith
count_step false true x y n e l = omega arith
count_step false false x y n e l = absurd (true≢false (sym e))

-- where each number passes one of two tests, they pass all of them together
pub count_either : (p q : ℕ → Bool) (n : ℕ) → ((i : ℕ) → i < n → (p i || q i) ≡ true) → n ≤ count p n + count q n
count_either p q zero each = omega arith
count_either p q (suc n) each = count_step (p n) (q n) (count p n) (count q n) n (each n (omega arith)) (count_either p q n (λ i l. each i (omega (arith, l))))

-- so it is of logs among two lists
pub log_count_either : (m : ℕ) (xs ys : List ℕ) → ((i : ℕ) → i < m → (is_among xs i || is_among ys i) ≡ true) → m ≤ log_count m xs + log_count m ys
log_count_either m xs ys each =
    let x = count_by-range (is_among xs) m in
    let y = count_by-range (is_among ys) m in
    let all = count_either (is_among xs) (is_among ys) m each in
    omega (arith, x, y, all)

-- a test of one number
count_above : (x n : ℕ) → n ≤ x → count (λ i. x == i) n ≡ 0
count_above x zero l = refl
count_above x (suc n) l = (
    let e = ne_eqb x n (λ k. omega (arith, k, l)) in
    let rest = count_above x n (omega (arith, l)) in
    rw (e, rest) refl)

one_step : (a : Bool) (x : ℕ) → x ≤ 1 → (a ≡ true → x ≡ 0) → cond a 1 0 + x ≤ 1
one_step true x l none = (let k = none refl in omega (arith, k))
one_step false x l none = omega arith

count_one : (x n : ℕ) → count (λ i. x == i) n ≤ 1
count_one x zero = omega arith
count_one x (suc n) = one_step (x == n) (count (λ i. x == i) n) (count_one x n) (λ e. count_above x n (let k = eqb-true x n e in omega (arith, k)))

or_step : (a b : Bool) (x y z : ℕ) → z ≤ x + y → cond (a || b) 1 0 + z ≤ (cond a 1 0 + x) + (cond b 1 0 + y)
or_step true b x y z l = omega arith
or_step false b x y z l = omega arith

count_or : (p q : ℕ → Bool) (n : ℕ) → count (λ i. p i || q i) n ≤ count p n + count q n
count_or p q zero = omega arith
count_or p q (suc n) = or_step (p n) (q n) (count p n) (count q n) (count (λ i. p i || q i) n) (count_or p q n)

count_nothing : (n : ℕ) → count (is_among []) n ≡ 0
count_nothing zero = refl
count_nothing (suc n) = (let k = count_nothing n in omega (arith, k))

-- no more numbers are among some than there are of these
pub count_short : (xs : List ℕ) (n : ℕ) → count (is_among xs) n ≤ length xs
count_short [] n = (let k = count_nothing n in omega (arith, k))
count_short (x ∷ xs) n = (
    let rest = count_short xs n in
    let one = count_one x n in
    let both = count_or (λ i. x == i) (is_among xs) n in
    omega (arith, rest, one, both))

all_step : (a b : Bool) (x y : ℕ) → (a ≡ true → b ≡ true) → x ≤ y → cond a 1 0 + x ≤ cond b 1 0 + y
all_step true b x y into l = rw (into refl) (omega arith)
all_step false true x y into l = omega arith
all_step false false x y into l = omega arith

-- a test that passes no less passes no fewer
pub count_into : (p q : ℕ → Bool) (n : ℕ) → ((i : ℕ) → i < n → p i ≡ true → q i ≡ true) → count p n ≤ count q n
count_into p q zero into = omega arith
count_into p q (suc n) into = all_step (p n) (q n) (count p n) (count q n) (into n (omega arith)) (count_into p q n (λ i l. into i (omega (arith, l))))

count_full : (n : ℕ) → count (λ i. true) n ≡ n
count_full zero = refl
count_full (suc n) = (let k = count_full n in omega (arith, k))

-- a list that has each number below one is no shorter
pub full_is_long : (xs : List ℕ) (n : ℕ) → ((i : ℕ) → i < n → is_among xs i ≡ true) → n ≤ length xs
full_is_long xs n each = (
    let short = count_short xs n in
    let into = count_into (λ i. true) (is_among xs) n (λ i l e. each i l) in
    let all = count_full n in
    omega (arith, short, into, all))

-- numbers of a list of what is made of others
pub among_map : {X : Type 0} (f : X → ℕ) (xs : List X) (i : ℕ) → is_among (map f xs) i ≡ list_any (λ x. f x == i) xs
among_map f [] i = refl
among_map f (x ∷ xs) i = ap (λ b. (f x == i) || b) (among_map f xs i)
