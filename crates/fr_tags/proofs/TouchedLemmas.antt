-- Which shards a mutation meets: those from one number up to another.
use Rattle.std.proofs.Common.{◌≡◌, ℕ, zero, suc, ◌+◌, ◌-◌, ◌<◌, ◌≤◌, Bool, true, false, cond, not, ◌&&◌, nat_eq, nat_lt, nat_le, List, [], ◌∷◌, ◌++◌, length, get_or, None, refl, sym, ◌∙◌, ap, inl, inr, ◌⊎◌, arith}
use Rattle.std.specs.Prelude.{slice_get}
use Rattle.std.specs.Option.{option_map_or}
use Rattle.std.specs.List.{filter, range_with_len}
use Rattle.std.specs.Ordering.{is_le, is_lt}
use Rattle.std.proofs.lemmas.Bool.{cases_lt, cases_order, both_ways, lt-ltb, le-ltb, le-leb, lt-leb, ltb-true, leb-true, eqb-true, eq-eqb, ne_eqb, and_parts, and_from, and_right, false_from_ne_true}
use Rattle.std.proofs.lemmas.Option.{slice_get-get_or, slice_get_past}
use Rattle.std.proofs.lemmas.List.{append-nil}
use Rattle.std.proofs.lemmas.List.Elements.{filter-append}
use Rattle.std.proofs.lemmas.Map.Keys.{Less-from_sorted}
use Rattle.fr_base.specs.Bytes.{bytes_cmp}
use Rattle.fr_mutation.specs.Shard.{in_shard}
use Rattle.fr_mutation.specs.declared.shard.Shard.{Shard}
use Rattle.fr_tags.specs.Shards.{shard_fault, shard_at, begun, begun_before, tag_of, meets_range, is_from_to}
use Rattle.fr_mutation.proofs.Order.{lt-le, le_trans, le_lt_trans, le_itself}
use Rattle.fr_tags.proofs.ByteOrder.{lt_from_less, le_from_lt}
use Rattle.fr_tags.proofs.ShardLemmas.{IsWhole, whole, at_or_below, before_at, some_begun, begun_within, rises-sorted}
use Rattle.fr_tags.proofs.LogCounting.{range_more}
use Rattle.fr_tags.proofs.ShardLawProof.{in_shard-at, meets_range-from, key_of_range}

same_tests : (a b : Bool) → (a ≡ true → b ≡ true) → (b ≡ true → a ≡ true) → a ≡ b
same_tests true b f g = sym (f refl)
same_tests false true f g = g refl
same_tests false false f g = refl

one_place : (n t : ℕ) → 0 < n → nat_eq (n - 1) t ≡ is_from_to (n - 1) n t
one_place n t some = elim (cases_order (n - 1) t) [
  | inl same ↦ rw (eq-eqb (n - 1) t same, le-leb (n - 1) t (omega arith), lt-ltb t n (omega arith)) refl
  | inr (inl below) ↦ rw (ne_eqb (n - 1) t (λ e. absurd (omega (arith, e, below))), le-leb (n - 1) t (omega arith), le-ltb t n (omega arith)) refl
  | inr (inr above) ↦ rw (ne_eqb (n - 1) t (λ e. absurd (omega (arith, e, above))), lt-leb (n - 1) t above) refl
]

-- a key's shard alone has it
pub key_is_met : (begins : List (List ℕ)) (k : List ℕ) (t : ℕ) → shard_fault begins ≡ None → t < length begins → in_shard (shard_at begins t) k ≡ is_from_to (begun begins k - 1) (begun begins k) t
key_is_met begins k t e within =
    let w = whole begins e in
    in_shard-at begins k t w within ∙ one_place (begun begins k) t (some_begun begins k w)

-- a shard has its own begin
own_begin : (begins : List (List ℕ)) (t : ℕ) → IsWhole begins → in_shard (shard_at begins t) (get_or begins t []) ≡ true
own_begin begins t w =
    let own = get_or begins t [] in
    and_from (is_le (bytes_cmp own own)) (option_map_or (λ limit. is_lt (bytes_cmp own limit)) (slice_get begins (t + 1)) true) (le_itself own)
    (elim (cases_lt (t + 1) (length begins)) [
      | inl next ↦
          let there = slice_get-get_or begins (t + 1) [] next in
          rw there (lt_from_less own (get_or begins (t + 1) []) (Less-from_sorted bytes_cmp begins t (t + 1) [] (rises-sorted begins w.rising) (omega arith) next))
      | inr past ↦ let none = slice_get_past begins (t + 1) past in rw none refl
    ])

-- the shard of the greatest tag up to that of a key begins at or below it
tag_begins : (begins : List (List ℕ)) (key : List ℕ) → IsWhole begins → is_le (bytes_cmp (get_or begins (tag_of begins key) []) key) ≡ true
tag_begins begins key w =
    let some = some_begun begins key w in
    let few = begun_within begins key in
    at_or_below begins key (tag_of begins key) [] w.rising (omega (arith, some, few))
    ∙ lt-ltb (tag_of begins key) (begun begins key) (omega (arith, some))

-- a greater key has no lower tag
tag_rises : (begins : List (List ℕ)) (a b : List ℕ) → IsWhole begins → is_le (bytes_cmp a b) ≡ true → tag_of begins a ≤ tag_of begins b
tag_rises begins a b w le =
    let some = some_begun begins a w in
    let few = begun_within begins a in
    let here = le_trans (get_or begins (tag_of begins a) []) a b (tag_begins begins a w) le in
    let less = ltb-true (tag_of begins a) (begun begins b) (sym (at_or_below begins b (tag_of begins a) [] w.rising (omega (arith, some, few))) ∙ here) in
    omega (arith, some, less)

-- the shards that have a key from one on and below another are those from the tag of the first
clear_met : (begins : List (List ℕ)) (begin end : List ℕ) (t : ℕ) → IsWhole begins → t < length begins → meets_range begin end (shard_at begins t) ≡ true → is_from_to (begun begins begin - 1) (begun_before begins end) t ≡ true
clear_met begins begin end t w within met =
    let s = shard_at begins t in
    let found = key_of_range begin end s met in
    let x = found.0 in
    let between = and_parts (is_le (bytes_cmp begin x)) (is_lt (bytes_cmp x end)) found.2 in
    let tagged = eqb-true (tag_of begins x) t (sym (in_shard-at begins x t w within) ∙ found.1) in
    let rises' = tag_rises begins begin x w between.0 in
    let begun' = (and_parts (is_le (bytes_cmp (get_or begins t []) x)) (option_map_or (λ limit. is_lt (bytes_cmp x limit)) s.end true) found.1).0 in
    let below = le_lt_trans (get_or begins t []) x end begun' between.1 in
    and_from (nat_le (begun begins begin - 1) t) (nat_lt t (begun_before begins end))
    (le-leb (begun begins begin - 1) t (omega (arith, rises', tagged)))
    (sym (before_at begins end t [] w.rising within) ∙ below)

clear_meets-at : (begins : List (List ℕ)) (begin end : List ℕ) (t : ℕ) → IsWhole begins → t < length begins → is_lt (bytes_cmp begin end) ≡ true → is_from_to (begun begins begin - 1) (begun_before begins end) t ≡ true → meets_range begin end (shard_at begins t) ≡ true
clear_meets-at begins begin end t w within some from_to =
    let s = shard_at begins t in
    let own = get_or begins t [] in
    let parts = and_parts (nat_le (begun begins begin - 1) t) (nat_lt t (begun_before begins end)) from_to in
    let from = leb-true (begun begins begin - 1) t parts.0 in
    let below : is_lt (bytes_cmp own end) ≡ true = before_at begins end t [] w.rising within ∙ parts.1 in
    elim (cases_lt t (begun begins begin)) [
      | inl here ↦
          let tagged : tag_of begins begin ≡ t = omega (arith, here, from) in
          meets_range-from begin end s begin (in_shard-at begins begin t w within ∙ eq-eqb (tag_of begins begin) t tagged)
          (and_from (is_le (bytes_cmp begin begin)) (is_lt (bytes_cmp begin end)) (le_itself begin) some)
      | inr after ↦
          let above : is_lt (bytes_cmp begin own) ≡ true = lt-le begin own ∙ ap not (at_or_below begins begin t [] w.rising within ∙ le-ltb t (begun begins begin) after) in
          meets_range-from begin end s own (own_begin begins t w)
          (and_from (is_le (bytes_cmp begin own)) (is_lt (bytes_cmp own end)) (le_from_lt begin own above) below)
    ]

pub clear_is_met : (begins : List (List ℕ)) (begin end : List ℕ) (t : ℕ) → shard_fault begins ≡ None → t < length begins → is_lt (bytes_cmp begin end) ≡ true → meets_range begin end (shard_at begins t) ≡ is_from_to (begun begins begin - 1) (begun_before begins end) t
clear_is_met begins begin end t e within some =
    let w = whole begins e in
    same_tests (meets_range begin end (shard_at begins t)) (is_from_to (begun begins begin - 1) (begun_before begins end) t)
    (clear_met begins begin end t w within) (clear_meets-at begins begin end t w within some)

-- a clear that ends where it begins, or before, meets no shard
pub empty_is_not_met : (begin end : List ℕ) (s : Shard) (t : ℕ) → is_lt (bytes_cmp begin end) ≡ false → meets_range begin end s ≡ is_from_to 0 0 t
empty_is_not_met begin end s t none =
    false_from_ne_true (meets_range begin end s) (λ met.
    let found = key_of_range begin end s met in
    let between = and_parts (is_le (bytes_cmp begin found.0)) (is_lt (bytes_cmp found.0 end)) found.2 in
    both_ways (is_lt (bytes_cmp begin end)) none (le_lt_trans begin found.0 end between.0 between.1))
    ∙ sym (rw (le-ltb t 0 (omega arith)) (no (nat_le 0 t)))
  where
    no : (b : Bool) → (b && false) ≡ false
    no true = refl
    no false = refl

-- a clear that begins before its end meets the shard of its begin, which begins before its end
pub clear_in_order : (begins : List (List ℕ)) (begin end : List ℕ) → shard_fault begins ≡ None → is_lt (bytes_cmp begin end) ≡ true → begun begins begin - 1 ≤ begun_before begins end
clear_in_order begins begin end e some =
    let w = whole begins e in
    let filled = some_begun begins begin w in
    let few = begun_within begins begin in
    let below = le_lt_trans (get_or begins (tag_of begins begin) []) begin end (tag_begins begins begin w) some in
    let less = ltb-true (tag_of begins begin) (begun_before begins end) (sym (before_at begins end (tag_of begins begin) [] w.rising (omega (arith, filled, few))) ∙ below) in
    omega (arith, less)

-- ---- the numbers that pass such a test

one_more : (p : ℕ → Bool) (n : ℕ) → filter p (range_with_len 0 (suc n)) ≡ filter p (range_with_len 0 n) ++ cond (p n) (n ∷ []) []
one_more p n =
    ap (filter p) (range_more 0 n) ∙ filter-append p (range_with_len 0 n) ((0 + n) ∷ [])
    ∙ ap (λ x. filter p (range_with_len 0 n) ++ cond (p x) (x ∷ []) []) (omega arith)

outside : (from to n : ℕ) → (n < from) ⊎ (to ≤ n) → is_from_to from to n ≡ false
outside from to n (inl before) = ap (λ b. b && nat_lt n to) (lt-leb from n before)
outside from to n (inr after) = and_right (nat_le from n) (nat_lt n to) (le-ltb n to after)

inside : (from to n : ℕ) → from ≤ n → n < to → is_from_to from to n ≡ true
inside from to n a b = and_from (nat_le from n) (nat_lt n to) (le-leb from n a) (lt-ltb n to b)

skipped : (p : ℕ → Bool) (n : ℕ) (xs : List ℕ) → p n ≡ false → filter p (range_with_len 0 n) ≡ xs → filter p (range_with_len 0 (suc n)) ≡ xs
skipped p n xs fails e = one_more p n ∙ ap (λ b. filter p (range_with_len 0 n) ++ cond b (n ∷ []) []) fails ∙ append-nil (filter p (range_with_len 0 n)) ∙ e

kept : (p : ℕ → Bool) (n : ℕ) (xs : List ℕ) → p n ≡ true → filter p (range_with_len 0 n) ≡ xs → filter p (range_with_len 0 (suc n)) ≡ xs ++ n ∷ []
kept p n xs passes e = one_more p n ∙ ap (λ b. filter p (range_with_len 0 n) ++ cond b (n ∷ []) []) passes ∙ ap (λ ys. ys ++ n ∷ []) e

range_longer : (from at many : ℕ) → from ≤ at → many ≡ at + 1 - from → range_with_len from (at - from) ++ at ∷ [] ≡ range_with_len from many
range_longer from at many order e =
    let end : at ≡ from + (at - from) = omega arith in
    let count : suc (at - from) ≡ many = omega arith in
    ap (λ x. range_with_len from (at - from) ++ x ∷ []) end ∙ sym (range_more from (at - from)) ∙ ap (range_with_len from) count

-- of the numbers below n those from one number up to another are the numbers there
pub filter_range : (p : ℕ → Bool) (n from to : ℕ) → from ≤ to → to ≤ n → ((t : ℕ) → t < n → p t ≡ is_from_to from to t) → filter p (range_with_len 0 n) ≡ range_with_len from (to - from)
filter_range p zero from to order within each = let none : 0 ≡ to - from = omega arith in ap (range_with_len from) none
filter_range p (suc n) from to order within each = elim (cases_lt n to) [
  | inr past ↦
      skipped p n (range_with_len from (to - from)) (each n (omega arith) ∙ outside from to n (inr past))
      (filter_range p n from to order past (λ t l. each t (omega arith)))
  | inl last ↦ elim (cases_lt n from) [
    | inl empty ↦
        skipped p n (range_with_len from (to - from)) (each n (omega arith) ∙ outside from to n (inl empty))
        (filter_range p n n n (omega arith) (omega arith) (λ t l. each t (omega arith) ∙ outside from to t (inl (omega arith)) ∙ sym (outside n n t (inl l)))
        ∙ nothing n from (n - n) (to - from) (omega arith) (omega arith))
    | inr some ↦
        kept p n (range_with_len from (n - from)) (each n (omega arith) ∙ inside from to n some last)
        (filter_range p n from n some (omega arith) (λ t l. each t (omega arith) ∙ sooner from to n t l (omega arith)))
        ∙ range_longer from n (to - from) some (omega arith)
  ]
]
  where
    nothing : (a b x y : ℕ) → x ≡ 0 → y ≡ 0 → range_with_len a x ≡ range_with_len b y
    nothing a b x y e d = rw (e, d) refl

    sooner : (from to n t : ℕ) → t < n → n < to → is_from_to from to t ≡ is_from_to from n t
    sooner from to n t l m = ap (λ b. nat_le from t && b) (lt-ltb t to (omega arith) ∙ sym (lt-ltb t n l))

-- a range with one number more
pub range_pushed : (from at number : ℕ) (xs more : List ℕ) → from ≤ at → xs ≡ range_with_len from (at - from) → number ≡ at → more ≡ xs ++ number ∷ [] → more ≡ range_with_len from (at + 1 - from)
range_pushed from at number xs more order e n p =
    p ∙ ap (λ ys. ys ++ number ∷ []) e ∙ ap (λ x. range_with_len from (at - from) ++ x ∷ []) n ∙ range_longer from at (at + 1 - from) order refl
