-- A stable sort: what it gives is in order, keeps those of one place as given, has exactly the values, and no other list is so.
use Rattle.std.proofs.Common.{◌≡◌, ℕ, zero, suc, ◌+◌, Bool, true, false, cond, not, ◌&&◌, List, [], ◌∷◌, refl, sym, ap, ◌∙◌, arith}
use Rattle.std.specs.Prelude.{map, slice_index_or, if◌then◌else◌}
use Rattle.std.specs.Cmp.{IsStrictWeakOrder}
use Rattle.std.specs.List.{filter}
use Rattle.std.specs.List.Sorted.{IsPermutation, IsSortedBy, IsStableBy, ties}
use Rattle.std.proofs.lemmas.List.Sorted.{IsPermutation-cons, IsPermutation-refl, IsPermutation-swap, IsPermutation-trans}
use Rattle.fr_audit_journal.specs.Sort.{inserted, sorted}

-- none of these is before x
unfoldable pub Low : {X : Type 0} → (X → X → Bool) → X → List X → Type 0
Low lt x [] = Unit {0}
Low lt x (y ∷ ys) = (lt y x ≡ false) × Low lt x ys

unfoldable pub Ascends : {X : Type 0} → (X → X → Bool) → List X → Type 0
Ascends lt [] = Unit {0}
Ascends lt (x ∷ xs) = Low lt x xs × Ascends lt xs

next : {X : Type 0} (x : X) (xs : List X) (n : ℕ) (d : X) → slice_index_or (x ∷ xs) (n + 1) d ≡ slice_index_or xs n d
next x xs n d = let e : n + 1 ≡ suc n = omega arith in ap (λ m. slice_index_or (x ∷ xs) m d) e

module _ {X : Type 0} {lt : X → X → Bool} (o : IsStrictWeakOrder lt) where
  lower : (x y : X) (ys : List X) → lt y x ≡ false → Low lt y ys → Low lt x ys
  unfolding Low
  lower x y [] e low = tt
  lower x y (z ∷ ys) e low = (o.chain z y x low.0 e, lower x y ys e low.1)

  -- ---- the sort ascends

  low_at : (x y z : X) (ys zs : List X) (b : Bool) → lt y x ≡ false → Low lt x (z ∷ ys) → Low lt x zs → Low lt x (if b then z ∷ zs else y ∷ z ∷ ys)
  unfolding Low
  low_at x y z ys zs true e low later = (low.0, later)
  low_at x y z ys zs false e low later = (e, low)

  low_with : (x y : X) (ys : List X) → lt y x ≡ false → Low lt x ys → Low lt x (inserted lt y ys)
  unfolding Low
  low_with x y [] e low = (e, tt)
  low_with x y (z ∷ ys) e low = low_at x y z ys (inserted lt y ys) (lt z y) e low (low_with x y ys e low.1)

  ascends_at : (x y : X) (ys : List X) (b : Bool) → lt y x ≡ b → Ascends lt (y ∷ ys) → Ascends lt (inserted lt x ys) → Ascends lt (if b then y ∷ inserted lt x ys else x ∷ y ∷ ys)
  unfolding Low Ascends
  ascends_at x y ys true d up later = (low_with y x ys (o.one_way y x d) up.0, later)
  ascends_at x y ys false d up later = ((d, lower x y ys d up.0), up)

  inserted-ascends : (x : X) (ys : List X) → Ascends lt ys → Ascends lt (inserted lt x ys)
  unfolding Low Ascends
  inserted-ascends x [] up = (tt, tt)
  inserted-ascends x (y ∷ ys) up = ascends_at x y ys (lt y x) refl up (inserted-ascends x ys up.1)

  pub sorted-ascends : (xs : List X) → Ascends lt (sorted lt xs)
  unfolding Ascends
  sorted-ascends [] = tt
  sorted-ascends (x ∷ xs) = inserted-ascends x (sorted lt xs) (sorted-ascends xs)

  -- ---- the sort is stable

  -- of two values one of which is before the other, only one ties with a third
  not_both : (z x y : X) → lt y x ≡ true → ties lt z y ≡ true → ties lt z x ≡ false
  not_both z x y before tied = go (lt z x) (lt x z) refl refl
    where
      none : lt z x ≡ false → ⊥
      none e = let k = o.chain y z x (second (lt z y) (lt y z) tied) e in cc
        where
          second : (a b : Bool) → (not a && not b) ≡ true → b ≡ false
          second a false e = refl
          second true true e = absurd (cc)
          second false true e = absurd (cc)

      go : (a b : Bool) → lt z x ≡ a → lt x z ≡ b → (not (lt z x) && not (lt x z)) ≡ false
      go true b d e = rw d refl
      go false b d e = absurd (none d)

  swapped_at : (z x y : X) (ys : List X) (b c : Bool) → ties lt z y ≡ b → ties lt z x ≡ c → (b ≡ true → c ≡ false) →
      filter (ties lt z) (y ∷ x ∷ ys) ≡ filter (ties lt z) (x ∷ y ∷ ys)
  swapped_at z x y ys true true d e one = absurd (let k = one refl in cc)
  swapped_at z x y ys true false d e one = rw (d, e) refl
  swapped_at z x y ys false c d e one = rw d refl

  swapped : (z x y : X) (ys : List X) → lt y x ≡ true → filter (ties lt z) (y ∷ x ∷ ys) ≡ filter (ties lt z) (x ∷ y ∷ ys)
  swapped z x y ys before = swapped_at z x y ys (ties lt z y) (ties lt z x) refl refl (not_both z x y before)

  stable_at : (z x y : X) (ys zs : List X) (b : Bool) → lt y x ≡ b → filter (ties lt z) zs ≡ filter (ties lt z) (x ∷ ys) →
      filter (ties lt z) (if b then y ∷ zs else x ∷ y ∷ ys) ≡ filter (ties lt z) (x ∷ y ∷ ys)
  stable_at z x y ys zs true d e = ap (λ l. cond (ties lt z y) (y ∷ l) l) e ∙ swapped z x y ys d
  stable_at z x y ys zs false d e = refl

  inserted-stable : (z x : X) (ys : List X) → filter (ties lt z) (inserted lt x ys) ≡ filter (ties lt z) (x ∷ ys)
  inserted-stable z x [] = refl
  inserted-stable z x (y ∷ ys) = stable_at z x y ys (inserted lt x ys) (lt y x) refl (inserted-stable z x ys)

  pub sorted-stable : (xs : List X) → IsStableBy lt xs (sorted lt xs)
  sorted-stable [] z = refl
  sorted-stable (x ∷ xs) z = inserted-stable z x (sorted lt xs) ∙ ap (λ l. cond (ties lt z x) (x ∷ l) l) (sorted-stable xs z)

  -- ---- the sort has exactly the values

  permuted_at : (x y : X) (ys zs : List X) (b : Bool) → IsPermutation (x ∷ ys) zs → IsPermutation (x ∷ y ∷ ys) (if b then y ∷ zs else x ∷ y ∷ ys)
  permuted_at x y ys zs true p =
      let first : IsPermutation (x ∷ y ∷ ys) (y ∷ x ∷ ys) = IsPermutation-swap (x ∷ y ∷ ys) (y ∷ x ∷ ys) 0 1 (omega arith) (omega arith) refl in
      IsPermutation-trans (x ∷ y ∷ ys) (y ∷ x ∷ ys) (y ∷ zs) first (IsPermutation-cons y (x ∷ ys) zs p)
  permuted_at x y ys zs false p = IsPermutation-refl (x ∷ y ∷ ys)

  inserted-permuted : (x : X) (ys : List X) → IsPermutation (x ∷ ys) (inserted lt x ys)
  inserted-permuted x [] = IsPermutation-refl (x ∷ [])
  inserted-permuted x (y ∷ ys) = permuted_at x y ys (inserted lt x ys) (lt y x) (inserted-permuted x ys)

  pub sorted-permuted : (xs : List X) → IsPermutation xs (sorted lt xs)
  sorted-permuted [] = IsPermutation-refl []
  sorted-permuted (x ∷ xs) =
      IsPermutation-trans (x ∷ xs) (x ∷ sorted lt xs) (inserted lt x (sorted lt xs)) (IsPermutation-cons x xs (sorted lt xs) (sorted-permuted xs)) (inserted-permuted x (sorted lt xs))

  -- ---- in order by neighbours, and by all that come after

  tail_sorted : (x : X) (xs : List X) → IsSortedBy lt (x ∷ xs) → IsSortedBy lt xs
  tail_sorted x xs up k d at within =
      let h : lt (slice_index_or (x ∷ xs) (k + 1 + 1) d) (slice_index_or (x ∷ xs) (k + 1) d) ≡ false = up (k + 1) d (omega arith) (omega (arith, within)) in
      ap (λ a. lt a (slice_index_or xs k d)) (sym (next x xs (k + 1) d)) ∙ ap (λ b. lt (slice_index_or (x ∷ xs) (k + 1 + 1) d) b) (sym (next x xs k d)) ∙ h

  low_of : (x : X) (xs : List X) → IsSortedBy lt (x ∷ xs) → Low lt x xs
  unfolding Low
  low_of x [] up = tt
  low_of x (y ∷ ys) up =
      let e : lt y x ≡ false = up 0 x (omega arith) (omega arith) in
      (e, lower x y ys e (low_of y ys (tail_sorted x (y ∷ ys) up)))

  pub ascends_of : (xs : List X) → IsSortedBy lt xs → Ascends lt xs
  unfolding Ascends
  ascends_of [] up = tt
  ascends_of (x ∷ xs) up = (low_of x xs up, ascends_of xs (tail_sorted x xs up))

  pub sorted_of : (xs : List X) → Ascends lt xs → IsSortedBy lt xs
  unfolding Low Ascends
  sorted_of [] up k d at within = absurd (omega (arith, within))
  sorted_of (x ∷ []) up k d at within = absurd (omega (arith, within))
  sorted_of (x ∷ y ∷ ys) up zero d at within = up.0.0
  sorted_of (x ∷ y ∷ ys) up (suc k) d at within =
      let e : suc k ≡ k + 1 = omega arith in
      ap (λ a. lt a (slice_index_or (y ∷ ys) k d)) (next x (y ∷ ys) (suc k) d ∙ ap (λ m. slice_index_or (y ∷ ys) m d) e)
      ∙ sorted_of (y ∷ ys) up.1 k d (omega arith) (omega (arith, within))

  -- ---- no other list is so

  tied_itself : (x : X) → ties lt x x ≡ true
  tied_itself x = go (lt x x) refl
    where
      go : (b : Bool) → lt x x ≡ b → (not (lt x x) && not (lt x x)) ≡ true
      go true e = let k = o.one_way x x e in absurd (cc)
      go false e = rw e refl

  itself_low : (y : X) (ys : List X) → Low lt y ys → Low lt y (y ∷ ys)
  unfolding Low
  itself_low y ys low = (go (lt y y) refl, low)
    where
      go : (b : Bool) → lt y y ≡ b → lt y y ≡ false
      go true e = o.one_way y y e
      go false e = e

  has_at : (p : X → Bool) (x a y : X) (rest ys : List X) (b : Bool) → lt a x ≡ true → lt y x ≡ false → (filter p ys ≡ a ∷ rest → ⊥) → cond b (y ∷ filter p ys) (filter p ys) ≡ a ∷ rest → ⊥
  has_at p x a y rest ys true e low later same = let h : y ≡ a = cc in absurd (cc)
  has_at p x a y rest ys false e low later same = later same

  -- a list without any before x has none that is before x
  low_has : (p : X → Bool) (x a : X) (rest ys : List X) → lt a x ≡ true → Low lt x ys → filter p ys ≡ a ∷ rest → ⊥
  unfolding Low
  low_has p x a rest [] e low same = absurd (cc)
  low_has p x a rest (y ∷ ys) e low same = has_at p x a y rest ys (p y) e low.0 (low_has p x a rest ys e low.1) same

  at_front : (x y : X) (ys : List X) → ties lt x y ≡ true → filter (ties lt x) (y ∷ ys) ≡ y ∷ filter (ties lt x) ys
  at_front x y ys e = ap (λ b. cond b (y ∷ filter (ties lt x) ys) (filter (ties lt x) ys)) e

  not_before : (x y : X) (xs ys : List X) → Low lt y ys → filter (ties lt x) (x ∷ xs) ≡ filter (ties lt x) (y ∷ ys) → lt x y ≡ false
  not_before x y xs ys low e = go (lt x y) refl
    where
      go : (b : Bool) → lt x y ≡ b → lt x y ≡ false
      go true d = absurd (low_has (ties lt x) y x (filter (ties lt x) xs) (y ∷ ys) d (itself_low y ys low) (sym e ∙ at_front x x xs (tied_itself x)))
      go false d = d

  same_front : (x y : X) (xs ys : List X) → lt x y ≡ false → lt y x ≡ false → filter (ties lt x) (x ∷ xs) ≡ filter (ties lt x) (y ∷ ys) → x ≡ y
  same_front x y xs ys a b e =
      let tied : ties lt x y ≡ true = rw (a, b) refl in
      let k : x ∷ filter (ties lt x) xs ≡ y ∷ filter (ties lt x) ys = sym (at_front x x xs (tied_itself x)) ∙ e ∙ at_front x y ys tied in
      cc

  tails : (b : Bool) (x : X) (xs ys : List X) → cond b (x ∷ xs) xs ≡ cond b (x ∷ ys) ys → xs ≡ ys
  tails true x xs ys e = cc
  tails false x xs ys e = e

  pub only_sorted : (xs ys : List X) → Ascends lt xs → Ascends lt ys → IsStableBy lt xs ys → xs ≡ ys
  unfolding Ascends
  only_sorted [] [] up vp e = refl
  only_sorted [] (y ∷ ys) up vp e = let k : y ∷ filter (ties lt y) ys ≡ [] = sym (at_front y y ys (tied_itself y)) ∙ e y in absurd (cc)
  only_sorted (x ∷ xs) [] up vp e = let k : [] ≡ x ∷ filter (ties lt x) xs = e x ∙ at_front x x xs (tied_itself x) in absurd (cc)
  only_sorted (x ∷ xs) (y ∷ ys) up vp e =
      let a = not_before x y xs ys vp.0 (sym (e x)) in
      let b = not_before y x ys xs up.0 (e y) in
      let k : x ≡ y = same_front x y xs ys a b (sym (e x)) in
      let t : (z : X) → filter (ties lt z) ys ≡ filter (ties lt z) xs =
      λ z. tails (ties lt z x) x (filter (ties lt z) ys) (filter (ties lt z) xs) (ap (λ w. filter (ties lt z) (w ∷ ys)) k ∙ e z) in
      ap (λ w. w ∷ xs) k ∙ ap (λ l. y ∷ l) (only_sorted xs ys up.1 vp.1 t)

  -- what a stable sort gives is the list so sorted
  pub is_sorted : (xs ys : List X) → IsSortedBy lt ys → IsStableBy lt xs ys → ys ≡ sorted lt xs
  is_sorted xs ys up e = sym (only_sorted (sorted lt xs) ys (sorted-ascends xs) (ascends_of ys up) (λ z. e z ∙ sym (sorted-stable xs z)))

-- ---- a sort by what a function sees of each value

map_at : {X Y : Type 0} (f : X → Y) (x y : X) (ys zs : List X) (ws : List Y) (b : Bool) → map f zs ≡ ws →
    map f (if b then y ∷ zs else x ∷ y ∷ ys) ≡ (if b then f y ∷ ws else f x ∷ f y ∷ map f ys)
map_at f x y ys zs ws true e = ap (λ l. f y ∷ l) e
map_at f x y ys zs ws false e = refl

map_inserted : {X Y : Type 0} (f : X → Y) (lt : Y → Y → Bool) (x : X) (ys : List X) → map f (inserted (λ a b. lt (f a) (f b)) x ys) ≡ inserted lt (f x) (map f ys)
map_inserted f lt x [] = refl
map_inserted f lt x (y ∷ ys) = map_at f x y ys (inserted (λ a b. lt (f a) (f b)) x ys) (inserted lt (f x) (map f ys)) (lt (f y) (f x)) (map_inserted f lt x ys)

pub map_sorted : {X Y : Type 0} (f : X → Y) (lt : Y → Y → Bool) (xs : List X) → map f (sorted (λ a b. lt (f a) (f b)) xs) ≡ sorted lt (map f xs)
map_sorted f lt [] = refl
map_sorted f lt (x ∷ xs) = map_inserted f lt x (sorted (λ a b. lt (f a) (f b)) xs) ∙ ap (inserted lt (f x)) (map_sorted f lt xs)
