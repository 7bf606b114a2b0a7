-- Byte strings in order, by tests.
use Rattle.std.proofs.Common.{◌≡◌, ℕ, Bool, true, false, cond, ◌&&◌, List, Some, refl, sym, ap, ◌∙◌}
use Rattle.std.specs.Prelude.{not}
use Rattle.std.specs.declared.cmp.Ordering.{Ordering}
use Rattle.std.specs.declared.cmp.Ordering.TheVariants.{Less, Equal, Greater}
use Rattle.std.specs.Ordering.{is_le, is_lt, is_gt, ordering_reverse}
use Rattle.std.proofs.lemmas.Cmp.{upto, tied_itself}
use Rattle.fr_base.specs.Bytes.{bytes_cmp, bytes_total}
use Rattle.fr_mutation.specs.Mutation.{is_between}
use Rattle.fr_mutation.specs.Clip.{later, earlier}

lt_reverse : (r : Ordering) → is_lt (ordering_reverse r) ≡ not (is_le r)
lt_reverse Less = refl
lt_reverse Equal = refl
lt_reverse Greater = refl

-- a < b is the contrary of b <= a
pub lt-le : (a b : List ℕ) → is_lt (bytes_cmp a b) ≡ not (is_le (bytes_cmp b a))
lt-le a b = ap is_lt (bytes_total.antisymm a b) ∙ lt_reverse (bytes_cmp b a)

gt_from_le : (r : Ordering) → is_le r ≡ true → is_gt r ≡ false
gt_from_le Less e = refl
gt_from_le Equal e = refl
gt_from_le Greater e = cc

le_from_gt : (r : Ordering) → is_gt r ≡ false → is_le r ≡ true
le_from_gt Less e = refl
le_from_gt Equal e = refl
le_from_gt Greater e = cc

le_from_lt : (r : Ordering) → is_lt r ≡ true → is_le r ≡ true
le_from_lt Less e = refl
le_from_lt Equal e = cc
le_from_lt Greater e = cc

pub lt_one_way : (a b : List ℕ) → is_lt (bytes_cmp a b) ≡ true → is_lt (bytes_cmp b a) ≡ false
lt_one_way a b e = lt-le b a ∙ ap not (le_from_lt (bytes_cmp a b) e)

pub le_itself : (a : List ℕ) → is_le (bytes_cmp a a) ≡ true
le_itself a = ap is_le (tied_itself bytes_total a)

pub le_trans : (a b c : List ℕ) → is_le (bytes_cmp a b) ≡ true → is_le (bytes_cmp b c) ≡ true → is_le (bytes_cmp a c) ≡ true
le_trans a b c e f = le_from_gt (bytes_cmp a c) (upto bytes_total a b c (gt_from_le (bytes_cmp a b) e) (gt_from_le (bytes_cmp b c) f))

not_true : (b : Bool) → not b ≡ true → b ≡ false
not_true true e = cc
not_true false e = refl

-- a < b and b <= c give a < c, and so do a <= b and b < c
pub lt_le_trans : (a b c : List ℕ) → is_lt (bytes_cmp a b) ≡ true → is_le (bytes_cmp b c) ≡ true → is_lt (bytes_cmp a c) ≡ true
lt_le_trans a b c e f = lt-le a c ∙ go (is_le (bytes_cmp c a)) refl
  where
    go : (r : Bool) → is_le (bytes_cmp c a) ≡ r → not r ≡ true
    go false g = refl
    go true g = let back : is_le (bytes_cmp b a) ≡ true = le_trans b c a f g in let never : is_le (bytes_cmp b a) ≡ false = not_true (is_le (bytes_cmp b a)) (sym (lt-le a b) ∙ e) in cc

pub le_lt_trans : (a b c : List ℕ) → is_le (bytes_cmp a b) ≡ true → is_lt (bytes_cmp b c) ≡ true → is_lt (bytes_cmp a c) ≡ true
le_lt_trans a b c e f = lt-le a c ∙ go (is_le (bytes_cmp c a)) refl
  where
    go : (r : Bool) → is_le (bytes_cmp c a) ≡ r → not r ≡ true
    go false g = refl
    go true g = let back : is_le (bytes_cmp c b) ≡ true = le_trans c a b g e in let never : is_le (bytes_cmp c b) ≡ false = not_true (is_le (bytes_cmp c b)) (sym (lt-le b c) ∙ f) in cc

pub lt_trans : (a b c : List ℕ) → is_lt (bytes_cmp a b) ≡ true → is_lt (bytes_cmp b c) ≡ true → is_lt (bytes_cmp a c) ≡ true
lt_trans a b c e f = lt_le_trans a b c e (le_from_lt (bytes_cmp b c) f)

not_false : (b : Bool) → not b ≡ false → b ≡ true
not_false true e = refl
not_false false e = cc

-- where a < b fails, b <= a
pub le_from_not_lt : (a b : List ℕ) → is_lt (bytes_cmp a b) ≡ false → is_le (bytes_cmp b a) ≡ true
le_from_not_lt a b e = not_false (is_le (bytes_cmp b a)) (sym (lt-le a b) ∙ e)

-- the two ends of a clear, as a range is asked for them
pub not_gt_from_not_lt : (a b : List ℕ) → is_lt (bytes_cmp a b) ≡ false → is_gt (bytes_cmp b a) ≡ false
not_gt_from_not_lt a b e = gt_from_le (bytes_cmp b a) (le_from_not_lt a b e)

-- one of two tests implies the other
pub and_right : (a b : Bool) → (b ≡ true → a ≡ true) → b ≡ (a && b)
and_right true b h = refl
and_right false true h = sym (h refl)
and_right false false h = refl

pub and_left : (a b : Bool) → (a ≡ true → b ≡ true) → a ≡ (a && b)
and_left true b h = sym (h refl)
and_left false b h = refl

-- q is not below the later of two keys where it is below neither
pub later_le : (a b q : List ℕ) → is_le (bytes_cmp (later a b) q) ≡ (is_le (bytes_cmp a q) && is_le (bytes_cmp b q))
later_le a b q = go (is_lt (bytes_cmp a b)) refl
  where
    go : (r : Bool) → is_lt (bytes_cmp a b) ≡ r → is_le (bytes_cmp (cond r b a) q) ≡ (is_le (bytes_cmp a q) && is_le (bytes_cmp b q))
    go true e = and_right _ _ (λ f. le_trans a b q (le_from_lt (bytes_cmp a b) e) f)
    go false e = and_left _ _ (λ f. le_trans b a q (le_from_not_lt a b e) f)

pub earlier_lt : (end limit q : List ℕ) → is_lt (bytes_cmp q (earlier end (Some limit))) ≡ (is_lt (bytes_cmp q end) && is_lt (bytes_cmp q limit))
earlier_lt end limit q = go (is_lt (bytes_cmp limit end)) refl
  where
    go : (r : Bool) → is_lt (bytes_cmp limit end) ≡ r → is_lt (bytes_cmp q (cond r limit end)) ≡ (is_lt (bytes_cmp q end) && is_lt (bytes_cmp q limit))
    go true e = and_right _ _ (λ f. lt_trans q limit end f e)
    go false e = and_left _ _ (λ f. lt_le_trans q end limit f (le_from_not_lt limit end e))

-- between two ends that are not in order there is nothing
pub nothing_between : (begin end q : List ℕ) → is_lt (bytes_cmp begin end) ≡ false → is_between begin end q ≡ false
nothing_between begin end q e = go (is_le (bytes_cmp begin q)) (is_lt (bytes_cmp q end)) refl refl
  where
    go : (a b : Bool) → is_le (bytes_cmp begin q) ≡ a → is_lt (bytes_cmp q end) ≡ b → (a && b) ≡ false
    go false b f g = refl
    go true false f g = refl
    go true true f g = let within : is_lt (bytes_cmp begin end) ≡ true = le_lt_trans begin q end f g in cc
