-- Finding a place in a list, and gathering from there.
use Rattle.std.proofs.Common.{◌≡◌, ℕ, zero, suc, ◌+◌, ◌<◌, ◌≤◌, Bool, true, false, List, [], ◌∷◌, ◌++◌, length, get_or, take, drop, nat_lt, Option, None, Some, eqb, refl, sym, ◌∙◌, ap, arith, append_assoc, length-append, take-append-drop}
use Rattle.std.specs.List.{filter, filter_map}
use Rattle.std.proofs.lemmas.Bool.{lt-ltb, le-ltb, false_from_ne_true}
use Rattle.std.proofs.lemmas.List.{append-nil, take_at, take_more, drop_more, length_push}
use Rattle.std.proofs.lemmas.List.Elements.{filter_map-append}
use Rattle.fr_log.specs.Push.{PushContent, is_one_push, is_one_push-parts}
use Rattle.fr_mutation.specs.declared.mutation.Mutation.{Mutation}
use Rattle.fr_log.specs.declared.records.SeedRecord.{SeedRecord}
use Rattle.fr_log.specs.LogState.{seeded_record}

-- what is above a number, if all above it stands behind all that is not
pub above_is_drop : {X : Type 0} (n : X → ℕ) (after i : ℕ) (xs : List X) → ((k : ℕ) (d : X) → k < i → n (get_or xs k d) ≤ after)
    → ((k : ℕ) (d : X) → i ≤ k → k < length xs → after < n (get_or xs k d)) → drop i xs ≡ filter (λ x. nat_lt after (n x)) xs
above_is_drop n after zero [] low high = refl
above_is_drop n after (suc i) [] low high = refl
above_is_drop n after zero (x ∷ xs) low high =
    let is_above = lt-ltb after (n x) (high 0 x (omega arith) (omega arith)) in
    let rest = above_is_drop n after zero xs (λ k d less. absurd (omega arith)) (λ k d from within. high (suc k) d (omega arith) (omega arith)) in
    rw is_above (ap (λ ys. x ∷ ys) rest)
above_is_drop n after (suc i) (x ∷ xs) low high =
    let is_low = le-ltb after (n x) (low 0 x (omega arith)) in
    let rest = above_is_drop n after i xs (λ k d less. low (suc k) d (omega arith)) (λ k d from within. high (suc k) d (omega arith) (omega arith)) in
    rw is_low rest

-- a push of another version is another push
pub another : (p q : PushContent) → (q.version ≡ p.version → ⊥) → is_one_push p q ≡ false
another p q apart = false_from_ne_true (is_one_push p q) (λ e. apart (sym (is_one_push-parts p q e).version))

-- ---- gathering what a function finds in each element, until there is enough

-- what is given, and whether more remains
pub record AreGathered {Y : Type 0} (given all : List Y) (most : ℕ) (more : Bool) : Type 0 where
  pub front : given ≡ take most all
  pub more_is : more ≡ nat_lt most (length all)

module _ {X Y : Type 0} where
  pub gather_more : (h : X → Option Y) (old given : List Y) (xs : List X) (i : ℕ) (d : X) (y : Y) → i < length xs → given ≡ old ++ filter_map h (take i xs) → h (get_or xs i d) ≡ Some y
      → given ++ y ∷ [] ≡ old ++ filter_map h (take (i + 1) xs)
  gather_more h old given xs i d y within so_far is =
      ap (λ zs. zs ++ y ∷ []) so_far ∙ append_assoc old (filter_map h (take i xs)) (y ∷ [])
      ∙ ap (λ zs. old ++ zs) (sym (ap (filter_map h) (take_more xs i d within) ∙ filter_map-append h (take i xs) (get_or xs i d ∷ []) ∙ rw is refl))

  pub gather_skip : (h : X → Option Y) (old given : List Y) (xs : List X) (i : ℕ) (d : X) → i < length xs → given ≡ old ++ filter_map h (take i xs) → h (get_or xs i d) ≡ None
      → given ≡ old ++ filter_map h (take (i + 1) xs)
  gather_skip h old given xs i d within so_far is =
      so_far ∙ ap (λ zs. old ++ zs) (sym (ap (filter_map h) (take_more xs i d within) ∙ filter_map-append h (take i xs) (get_or xs i d ∷ []) ∙ rw is (append-nil (filter_map h (take i xs)))))

  pub gather_full : (h : X → Option Y) (old given : List Y) (xs : List X) (i most : ℕ) (d : X) (y : Y) → i < length xs → given ≡ old ++ filter_map h (take i xs) → h (get_or xs i d) ≡ Some y
      → length given ≡ most → AreGathered given (old ++ filter_map h xs) most true
  gather_full h old given xs i most d y within so_far is enough =
      let rest = filter_map h (drop (i + 1) xs) in
      let split : filter_map h xs ≡ filter_map h (take i xs) ++ (y ∷ rest) =
      ap (filter_map h) (sym (take-append-drop i xs)) ∙ filter_map-append h (take i xs) (drop i xs)
      ∙ ap (λ zs. filter_map h (take i xs) ++ zs) (ap (filter_map h) (drop_more xs i d within) ∙ rw is refl)
      in
      let all : old ++ filter_map h xs ≡ given ++ (y ∷ rest) =
      ap (λ zs. old ++ zs) split ∙ sym (append_assoc old (filter_map h (take i xs)) (y ∷ rest)) ∙ ap (λ zs. zs ++ (y ∷ rest)) (sym so_far)
      in
      let long : length (given ++ (y ∷ rest)) ≡ length given + length (y ∷ rest) = length-append given (y ∷ rest) in
      record {
        front = sym (ap (take most) all ∙ take_at given (y ∷ rest) most enough);
        more_is = sym (ap (λ zs. nat_lt most (length zs)) all ∙ lt-ltb most (length (given ++ (y ∷ rest))) (omega arith));
      }

pub seeded_found : (tag : ℕ) (r : SeedRecord) (batch : List Mutation) → true ≡ eqb r.tag tag → batch ≡ r.batch → seeded_record tag r ≡ Some (record { version = r.version; batch = batch })
seeded_found tag r batch is same = rw (← is, same) refl

pub seeded_none : (tag : ℕ) (r : SeedRecord) → false ≡ eqb r.tag tag → seeded_record tag r ≡ None
seeded_none tag r is = rw (← is) refl

pub room_more : {Y : Type 0} (given more : List Y) (y : Y) (most : ℕ) → more ≡ given ++ y ∷ [] → length given ≤ most → (length given ≡ most → ⊥) → length more ≤ most
room_more given more y most e fits short = let k = ap length e in let j = length_push given y in omega arith
