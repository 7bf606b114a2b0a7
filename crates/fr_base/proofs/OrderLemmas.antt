-- Bytes read as numbers, the first byte the greatest, compare as the bytes do; and if two byte strings begin alike,
-- what follows decides.
use Rattle.std.proofs.Common.{◌≡◌, ℕ, zero, suc, ◌+◌, ◌*◌, ◌<◌, ◌≤◌, min, arith, List, [], ◌∷◌, ◌++◌, length, take, drop, get_or, Fits, w8, refl, sym, ap, ◌∙◌}
use Rattle.std.proofs.Math.Seq.{take-add, drop-cons}
use Rattle.std.proofs.lemmas.List.{get_or-drop, length-drop, take-take}
use Rattle.std.specs.declared.cmp.Ordering.{Ordering}
use Rattle.std.specs.declared.cmp.Ordering.TheVariants.{Less, Equal, Greater}
use Rattle.std.specs.Ordering.{nat_cmp, ordering_then, MatchOrdering}
use Rattle.std.specs.Cmp.{ranks, nat_cmp_is}
use Rattle.std.specs.Slice.Scan.{big_endian}
use Rattle.fr_base.specs.Bytes.{bytes_cmp, bytes_exact}

-- ---- one comparison after another
then_assoc : (p q r : Ordering) → ordering_then p (ordering_then q r) ≡ ordering_then (ordering_then p q) r
then_assoc Less q r = refl
then_assoc Equal q r = refl
then_assoc Greater q r = refl

then_Equal : (p : Ordering) → p ≡ ordering_then p Equal
then_Equal Less = refl
then_Equal Equal = refl
then_Equal Greater = refl

alike : (x y : ℕ) → x ≡ y → nat_cmp x y ≡ Equal
alike x y e = sym (nat_cmp_is x y Equal e)

apart : (x y : ℕ) → (x ≡ y → ⊥) → (o : Ordering) → nat_cmp x y ≡ ordering_then (nat_cmp x y) o
apart x y ne o = go (nat_cmp x y) (ranks x y)
  where
    go : (r : Ordering) → MatchOrdering r (x < y) (x ≡ y) (y < x) → r ≡ ordering_then r o
    go Less h = refl
    go Equal h = absurd (ne h)
    go Greater h = refl

both_more : (x y : ℕ) → nat_cmp (suc x) (suc y) ≡ nat_cmp x y
both_more x y = sym (nat_cmp_is (suc x) (suc y) _ (go (nat_cmp x y) (ranks x y)))
  where
    go : (r : Ordering) → MatchOrdering r (x < y) (x ≡ y) (y < x) → MatchOrdering r (suc x < suc y) (suc x ≡ suc y) (suc y < suc x)
    go Less h = let l : x < y = h in omega arith
    go Equal h = let e : x ≡ y = h in omega arith
    go Greater h = let l : y < x = h in omega arith

-- ---- numbers that get one more digit
digit : (a b u v : ℕ) → u < 256 → v < 256 → nat_cmp (a * 256 + u) (b * 256 + v) ≡ ordering_then (nat_cmp a b) (nat_cmp u v)
digit a b u v p q = sym (nat_cmp_is _ _ _ (go (nat_cmp a b) (nat_cmp u v) (ranks a b) (ranks u v)))
  where
    go : (r s : Ordering) → MatchOrdering r (a < b) (a ≡ b) (b < a) → MatchOrdering s (u < v) (u ≡ v) (v < u)
        → MatchOrdering (ordering_then r s) (a * 256 + u < b * 256 + v) (a * 256 + u ≡ b * 256 + v) (b * 256 + v < a * 256 + u)
    go Less s h g = let l : a < b = h in omega arith
    go Greater s h g = let l : b < a = h in omega arith
    go Equal Less h g = let e : a ≡ b = h in let l : u < v = g in omega arith
    go Equal Equal h g = let e : a ≡ b = h in let l : u ≡ v = g in omega arith
    go Equal Greater h g = let e : a ≡ b = h in let l : v < u = g in omega arith

abbrev AreBytes : List ℕ → Type 0
AreBytes bs = (k : ℕ) → Fits w8 (get_or bs k 0)

-- n bytes behind the digits of a and of b
spelled : (n a b : ℕ) (us vs : List ℕ) → n ≤ length us → n ≤ length vs → AreBytes us → AreBytes vs
    → nat_cmp (big_endian a (take n us)) (big_endian b (take n vs)) ≡ ordering_then (nat_cmp a b) (bytes_cmp (take n us) (take n vs))
spelled zero a b us vs p q g h = then_Equal (nat_cmp a b)
spelled (suc n) a b [] vs p q g h = absurd (omega arith)
spelled (suc n) a b (u ∷ us) [] p q g h = absurd (omega arith)
spelled (suc n) a b (u ∷ us) (v ∷ vs) p q g h =
    let rest = bytes_cmp (take n us) (take n vs) in
    spelled n (a * 256 + u) (b * 256 + v) us vs (omega arith) (omega arith) (λ k. g (suc k)) (λ k. h (suc k))
    ∙ ap (λ r. ordering_then r rest) (digit a b u v (g 0).fits (h 0).fits)
    ∙ sym (then_assoc (nat_cmp a b) (nat_cmp u v) rest)

-- ---- a front and the rest
-- the fronts decide, and else the rests do
parts : (i : ℕ) (xs ys : List ℕ) → bytes_cmp xs ys ≡ ordering_then (bytes_cmp (take i xs) (take i ys)) (bytes_cmp (drop i xs) (drop i ys))
parts zero xs ys = refl
parts (suc i) [] [] = refl
parts (suc i) [] (y ∷ ys) = refl
parts (suc i) (x ∷ xs) [] = refl
parts (suc i) (x ∷ xs) (y ∷ ys) = ap (ordering_then (nat_cmp x y)) (parts i xs ys) ∙ then_assoc (nat_cmp x y) (bytes_cmp (take i xs) (take i ys)) (bytes_cmp (drop i xs) (drop i ys))

same : (xs : List ℕ) → bytes_cmp xs xs ≡ Equal
same [] = refl
same (x ∷ xs) = ap (λ r. ordering_then r (bytes_cmp xs xs)) (alike x x refl) ∙ same xs

-- equal fronts do not count
past : (i : ℕ) (xs ys : List ℕ) → take i xs ≡ take i ys → bytes_cmp xs ys ≡ bytes_cmp (drop i xs) (drop i ys)
past i xs ys e =
    parts i xs ys
    ∙ ap (λ r. ordering_then r (bytes_cmp (drop i xs) (drop i ys))) (ap (λ l. bytes_cmp (take i xs) l) (sym e) ∙ same (take i xs))

-- equal fronts have equal shorter fronts
pub shorter : (i j : ℕ) (xs ys : List ℕ) → i ≤ j → take j xs ≡ take j ys → take i xs ≡ take i ys
shorter i j xs ys le e = sym (take-take i j xs le) ∙ ap (take i) e ∙ take-take i j ys le

-- the lengths decide where one is a front of the other
pub by_lengths : (n : ℕ) (xs ys : List ℕ) → n ≡ min (length xs) (length ys) → take n xs ≡ take n ys → nat_cmp (length xs) (length ys) ≡ bytes_cmp xs ys
by_lengths n [] [] e h = refl
by_lengths n [] (y ∷ ys) e h = sym (nat_cmp_is 0 (length (y ∷ ys)) Less (omega arith))
by_lengths n (x ∷ xs) [] e h = sym (nat_cmp_is (length (x ∷ xs)) 0 Greater (omega arith))
by_lengths zero (x ∷ xs) (y ∷ ys) e h = absurd (omega arith)
by_lengths (suc n) (x ∷ xs) (y ∷ ys) e h =
    let first : x ≡ y = cc in
    let others : take n xs ≡ take n ys = cc in
    both_more (length xs) (length ys)
    ∙ by_lengths n xs ys (omega arith) others
    ∙ sym (ap (λ r. ordering_then r (bytes_cmp xs ys)) (alike x y first))

-- ---- the n bytes from i on, behind equal bytes, as the numbers x and y
module _ (xs ys : List ℕ) (bx : AreBytes xs) (by : AreBytes ys) {x y : ℕ} (i n : ℕ) (p : i + n ≤ length xs) (q : i + n ≤ length ys)
    (a : x ≡ big_endian 0 (take n (drop i xs))) (b : y ≡ big_endian 0 (take n (drop i ys))) (front : take i xs ≡ take i ys) where
  word : nat_cmp x y ≡ bytes_cmp (take n (drop i xs)) (take n (drop i ys))
  word =
      (λ j. nat_cmp (a j) (b j))
      ∙ spelled n 0 0 (drop i xs) (drop i ys) (omega (arith, length-drop i xs)) (omega (arith, length-drop i ys)) (within xs bx) (within ys by)
    where
      within : (l : List ℕ) → AreBytes l → AreBytes (drop i l)
      within l h k = rw (get_or-drop i l k 0) (h (i + k))

  -- where they differ they decide
  pub word_apart : (x ≡ y → ⊥) → nat_cmp x y ≡ bytes_cmp xs ys
  word_apart ne =
      let rest = bytes_cmp (drop n (drop i xs)) (drop n (drop i ys)) in
      apart x y ne rest
      ∙ ap (λ r. ordering_then r rest) word
      ∙ sym (parts n (drop i xs) (drop i ys))
      ∙ sym (past i xs ys front)

  -- where they do not, the bytes are equal up to their end
  pub word_alike : x ≡ y → take (i + n) xs ≡ take (i + n) ys
  word_alike e =
      let chunk = bytes_exact (take n (drop i xs)) (take n (drop i ys)) (sym word ∙ alike x y e) in
      take-add i n xs ∙ (λ j. front j ++ chunk j) ∙ sym (take-add i n ys)

-- one byte is its own number
pub one_byte : (xs : List ℕ) (i : ℕ) → i < length xs → get_or xs i 0 ≡ big_endian 0 (take 1 (drop i xs))
one_byte xs i lt = omega arith ∙ sym (ap (λ l. big_endian 0 (take 1 l)) (drop-cons xs i 0 lt))
