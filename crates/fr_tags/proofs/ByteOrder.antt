-- The order of byte strings: the tests that shards make, and the order's own words.
use Rattle.std.proofs.Common.{◌≡◌, ℕ, true, List, [], ◌∷◌, refl, ap}
use Rattle.std.specs.declared.cmp.Ordering.{Ordering}
use Rattle.std.specs.declared.cmp.Ordering.TheVariants.{Less, Equal, Greater}
use Rattle.std.specs.Ordering.{is_le, is_lt}
use Rattle.fr_base.specs.Bytes.{bytes_cmp}

pub lt_from_less : (a b : List ℕ) → bytes_cmp a b ≡ Less → is_lt (bytes_cmp a b) ≡ true
lt_from_less a b e = ap is_lt e

pub less_from_lt : (a b : List ℕ) → is_lt (bytes_cmp a b) ≡ true → bytes_cmp a b ≡ Less
less_from_lt a b h = go (bytes_cmp a b) h
  where
    go : (o : Ordering) → is_lt o ≡ true → o ≡ Less
    go Less k = refl
    go Equal k = absurd (cc)
    go Greater k = absurd (cc)

pub le_from_less : (a b : List ℕ) → bytes_cmp a b ≡ Less → is_le (bytes_cmp a b) ≡ true
le_from_less a b e = ap is_le e

pub le_from_lt : (a b : List ℕ) → is_lt (bytes_cmp a b) ≡ true → is_le (bytes_cmp a b) ≡ true
le_from_lt a b l = le_from_less a b (less_from_lt a b l)

-- no byte string is below the empty one
pub empty_le : (a : List ℕ) → is_le (bytes_cmp [] a) ≡ true
empty_le [] = refl
empty_le (x ∷ xs) = refl
