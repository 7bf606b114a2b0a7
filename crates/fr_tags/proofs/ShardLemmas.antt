-- Begins that rise, and how many of them a test passes.
use Rattle.std.proofs.Common.{◌≡◌, ℕ, zero, suc, ◌+◌, ◌<◌, ◌≤◌, Bool, true, false, not, cond, nat_lt, ◌==◌, List, [], ◌∷◌, length, drop, get_or, None, Some, refl, sym, ◌∙◌, ap, subst, inl, inr, arith}
use Rattle.std.specs.List.{zip, count_by}
use Rattle.std.specs.List.Sorted.{IsStrictlySortedBy, IsPartitionedBy, IsPartitionPoint}
use Rattle.std.specs.Ordering.{is_le, is_lt}
use Rattle.std.proofs.lemmas.Bool.{cases_order, eqb-false, ltb-false, cases_lt, lt-ltb, le-ltb, cases_Bool, false_from_ne_true, both_ways, ltb-true}
use Rattle.std.proofs.lemmas.List.Sums.{sum_by-cons, AllPass-from_list_all, count_by-le-length}
use Rattle.std.proofs.lemmas.Map.Keys.{sorted_from_all_adjacent, Less-from_sorted}
use Rattle.std.proofs.lemmas.Slice.Zip.{get_or-zip, length-zip}
use Rattle.std.proofs.lemmas.List.{get_or-drop, length-drop}
use Rattle.fr_base.specs.Bytes.{bytes_cmp, bytes_total}
use Rattle.fr_tags.specs.Shards.{has_long, rises, shard_fault, begun, begun_before, tag_of}
use Rattle.fr_tags.specs.declared.fault.ShardFault.TheVariants.{NotSorted, Empty, Uncovered, TooMany, BeginTooLong}
use Rattle.fr_mutation.proofs.Order.{le_trans, le_lt_trans}
use Rattle.fr_tags.proofs.ByteOrder.{less_from_lt, le_from_less, empty_le}

passing : (b : Bool) (n m : ℕ) → b ≡ true → n ≡ m → cond b 1 0 + n ≡ suc m
passing b n m e f = rw (e, f) (omega arith)

failing : (b : Bool) (n : ℕ) → b ≡ false → n ≡ 0 → cond b 1 0 + n ≡ 0
failing b n e f = rw (e, f) (omega arith)

-- where a test passes a front and nothing after it, the front is as long as the test counts
pub count_at_point : {X : Type 0} (p : X → Bool) (xs : List X) (i : ℕ) → i ≤ length xs → IsPartitionPoint (λ y. p y ≡ true) (λ y. p y ≡ false) xs i → count_by p xs ≡ i
count_at_point p [] i l h = omega arith
count_at_point p (x ∷ xs) zero l h =
    sum_by-cons (λ y. cond (p y) 1 0) x xs
    ∙ failing (p x) (count_by p xs) (h.1 0 x (omega arith) (omega arith)) (count_at_point p xs zero (omega arith) (λ k d a b. absurd (omega (arith, b)), λ k d a b. h.1 (suc k) d (omega arith) (omega arith)))
count_at_point p (x ∷ xs) (suc i) l h =
    sum_by-cons (λ y. cond (p y) 1 0) x xs
    ∙ passing (p x) (count_by p xs) i (h.0 0 x (omega arith) (omega arith)) (count_at_point p xs i (omega arith) (λ k d a b. h.0 (suc k) d (omega arith) (omega arith), λ k d a b. h.1 (suc k) d (omega arith) (omega arith)))

-- begins that rise are in order
pub rises-sorted : (begins : List (List ℕ)) → rises begins ≡ true → IsStrictlySortedBy bytes_cmp begins
rises-sorted begins up = sorted_from_all_adjacent bytes_total begins [] (λ k l.
    let shorter = length-drop 1 begins in
    let within : k < length (drop 1 begins) = omega (arith, l, shorter) in
    let both : k < length (zip begins (drop 1 begins)) = rw length-zip (omega (arith, l, within)) in
    let pass = AllPass-from_list_all (λ pair. is_lt (bytes_cmp pair.0 pair.1)) (zip begins (drop 1 begins)) up k ([], []) both in
    let at = get_or-zip begins (drop 1 begins) k ([], []) (omega arith) within in
    let next : get_or (drop 1 begins) k [] ≡ get_or begins (k + 1) [] = get_or-drop 1 begins k [] ∙ ap (λ i. get_or begins i []) (omega arith) in
    less_from_lt (get_or begins k []) (get_or begins (k + 1) []) (subst (λ b. is_lt (bytes_cmp (get_or begins k []) b) ≡ true) next (subst (λ pair. is_lt (bytes_cmp pair.0 pair.1) ≡ true) at pass)))

-- what is at or below a key comes before what is not
pub begun-parts : (begins : List (List ℕ)) (key : List ℕ) → rises begins ≡ true → IsPartitionedBy (λ begin. is_le (bytes_cmp begin key)) begins
begun-parts begins key up i j d le within passes = elim (cases_order i j) [
  | inl e ↦ subst (λ k. is_le (bytes_cmp (get_or begins k d) key) ≡ true) (sym e) passes
  | inr (inl less) ↦ le_trans (get_or begins i d) (get_or begins j d) key (le_from_less (get_or begins i d) (get_or begins j d) (Less-from_sorted bytes_cmp begins i j d (rises-sorted begins up) less within)) passes
  | inr (inr more) ↦ absurd (omega (arith, more, le))
]

-- what begins with no fault are
pub record IsWhole (begins : List (List ℕ)) : Type 0 where
  pub some : 0 < length begins
  pub few : length begins ≤ 32
  pub first : get_or begins 0 [] ≡ []
  pub rising : rises begins ≡ true

is_nil : (xs : List ℕ) → length xs ≡ 0 → xs ≡ []
is_nil [] e = refl
is_nil (x ∷ xs) e = absurd (omega (arith, e))

pub whole : (begins : List (List ℕ)) → shard_fault begins ≡ None → IsWhole begins
whole begins e =
    let tests = go (length begins == 0) (nat_lt 32 (length begins)) (has_long begins) (nat_lt 0 (length (get_or begins 0 []))) (rises begins) e in
    let some = eqb-false (length begins) 0 tests.0 in
    let few = ltb-false 32 (length begins) tests.1 in
    let short = ltb-false 0 (length (get_or begins 0 [])) tests.2 in
    record {
      some = omega (arith, some);
      few = few;
      first = is_nil (get_or begins 0 []) (omega (arith, short));
      rising = tests.3;
    }
  where
    go : (a b c d f : Bool) → cond a (Some Empty) (cond b (Some TooMany) (cond c (Some BeginTooLong) (cond d (Some Uncovered) (cond (not f) (Some NotSorted) None)))) ≡ None → (a ≡ false) × (b ≡ false) × (d ≡ false) × (f ≡ true)
    go true b c d f h = absurd (cc)
    go false true c d f h = absurd (cc)
    go false false true d f h = absurd (cc)
    go false false false true f h = absurd (cc)
    go false false false false true h = (refl, refl, refl, refl)
    go false false false false false h = absurd (cc)

shift : (a b : ℕ) → nat_lt a b ≡ nat_lt (suc a) (suc b)
shift a b = elim (cases_lt a b) [
  | inl l ↦ lt-ltb a b l ∙ sym (lt-ltb (suc a) (suc b) (omega arith))
  | inr l ↦ le-ltb a b l ∙ sym (le-ltb (suc a) (suc b) (omega arith))
]

counted_one : {X : Type 0} (p : X → Bool) (x : X) (xs : List X) → p x ≡ true → count_by p (x ∷ xs) ≡ suc (count_by p xs)
counted_one p x xs e = sum_by-cons (λ y. cond (p y) 1 0) x xs ∙ passing (p x) (count_by p xs) (count_by p xs) e refl

-- where the first place fails, all do
fails_all : {X : Type 0} (p : X → Bool) (xs : List X) (i : ℕ) (d : X) → IsPartitionedBy p xs → ((e : X) → p (get_or xs 0 e) ≡ false) → i < length xs → p (get_or xs i d) ≡ nat_lt i (count_by p xs)
fails_all p xs i d parts first within =
    let none : (j : ℕ) (e : _) → j < length xs → p (get_or xs j e) ≡ false = λ j e l. false_from_ne_true (p (get_or xs j e)) (λ h. both_ways (p (get_or xs 0 e)) (first e) (parts 0 j e (omega arith) l h)) in
    let zero' : count_by p xs ≡ 0 = count_at_point p xs 0 (omega arith) (λ k e a b. absurd (omega (arith, b)), λ k e a b. none k e b) in
    rw zero' (none i d within ∙ sym (le-ltb i 0 (omega arith)))

-- a test that passes a front of a list and nothing after it passes at the first places, as many as it counts
pub passes_front : {X : Type 0} (p : X → Bool) (xs : List X) (i : ℕ) (d : X) → IsPartitionedBy p xs → i < length xs → p (get_or xs i d) ≡ nat_lt i (count_by p xs)
passes_front p [] i d parts within = absurd (omega (arith, within))
passes_front p (x ∷ xs) zero d parts within = elim (cases_Bool (p x)) [
  | inl passes ↦ rw (counted_one p x xs passes) (passes ∙ sym (lt-ltb 0 (suc (count_by p xs)) (omega arith)))
  | inr fails ↦ fails_all p (x ∷ xs) zero d parts (λ e. fails) within
]
passes_front p (x ∷ xs) (suc j) d parts within = elim (cases_Bool (p x)) [
  | inl passes ↦
      rw (counted_one p x xs passes)
      (passes_front p xs j d (λ a b c le l h. parts (suc a) (suc b) c (omega arith) (omega arith) h) (omega (arith, within)) ∙ shift j (count_by p xs))
  | inr fails ↦ fails_all p (x ∷ xs) (suc j) d parts (λ e. fails) within
]

-- which begins are at or below a key: the first ones, as many as are counted
pub at_or_below : (begins : List (List ℕ)) (key : List ℕ) (i : ℕ) (d : List ℕ) → rises begins ≡ true → i < length begins → is_le (bytes_cmp (get_or begins i d) key) ≡ nat_lt i (begun begins key)
at_or_below begins key i d up within = passes_front (λ begin. is_le (bytes_cmp begin key)) begins i d (begun-parts begins key up) within

-- the first shard begins at or below every key
pub some_begun : (begins : List (List ℕ)) (key : List ℕ) → IsWhole begins → 0 < begun begins key
some_begun begins key w =
    let some = w.some in
    let here : is_le (bytes_cmp (get_or begins 0 []) key) ≡ true = rw w.first (empty_le key) in
    ltb-true 0 (begun begins key) (sym (at_or_below begins key 0 [] w.rising some) ∙ here)

pub begun_within : (begins : List (List ℕ)) (key : List ℕ) → begun begins key ≤ length begins
begun_within begins key = count_by-le-length (λ begin. is_le (bytes_cmp begin key)) begins

-- each key has the tag of a shard
pub tag_within : (begins : List (List ℕ)) (key : List ℕ) → IsWhole begins → tag_of begins key < length begins
tag_within begins key w = let a = some_begun begins key w in let b = begun_within begins key in omega (arith, a, b)

-- ---- what a map's functions ask of its begins

pub map_rises : (begins : List (List ℕ)) → shard_fault begins ≡ None → rises begins ≡ true
map_rises begins e = (whole begins e).rising

-- what is below a key comes before what is not
pub before-parts : (begins : List (List ℕ)) (key : List ℕ) → rises begins ≡ true → IsPartitionedBy (λ begin. is_lt (bytes_cmp begin key)) begins
before-parts begins key up i j d le within passes = elim (cases_order i j) [
  | inl e ↦ subst (λ k. is_lt (bytes_cmp (get_or begins k d) key) ≡ true) (sym e) passes
  | inr (inl less) ↦ le_lt_trans (get_or begins i d) (get_or begins j d) key (le_from_less (get_or begins i d) (get_or begins j d) (Less-from_sorted bytes_cmp begins i j d (rises-sorted begins up) less within)) passes
  | inr (inr more) ↦ absurd (omega (arith, more, le))
]

-- which begins are below a key: the first ones, as many as are counted
pub before_at : (begins : List (List ℕ)) (key : List ℕ) (i : ℕ) (d : List ℕ) → rises begins ≡ true → i < length begins → is_lt (bytes_cmp (get_or begins i d) key) ≡ nat_lt i (begun_before begins key)
before_at begins key i d up within = passes_front (λ begin. is_lt (bytes_cmp begin key)) begins i d (before-parts begins key up) within

pub map_some_begun : (begins : List (List ℕ)) (key : List ℕ) → shard_fault begins ≡ None → 0 < begun begins key
map_some_begun begins key e = some_begun begins key (whole begins e)
