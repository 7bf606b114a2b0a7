-- What was read is a state.
use Rattle.std.proofs.Common.{◌≡◌, ℕ, zero, suc, ◌≤◌, ◌&&◌, Bool, true, false, cond, leb, ltb, List, [], ◌∷◌, length, drop, Ok, Err, refl, ap, arith}
use Rattle.std.specs.Prelude.{All}
use Rattle.std.specs.List.{list_all}
use Rattle.std.proofs.lemmas.Bool.{and_parts, and_from, ltb-true, leb-true, lt-ltb, le-leb}
use Rattle.std.proofs.lemmas.List.Elements.{All-nil, All-cons, All-head, All-tail}
use Rattle.fr_state.specs.declared.fault.StateDecodeFault.{StateDecodeFault}
use Rattle.fr_state.specs.declared.fault.StateDecodeFault.TheVariants.{BadForm}
use Rattle.std.specs.Int.{w64}
use Rattle.fr_state.specs.BigEndian.{number_at}
use Rattle.fr_state.specs.Generations.{LogGeneration, IsGeneration, IsCoordinatedState, first_epoch_of}
use Rattle.fr_state.specs.Reading.{count_at, generation_at, generations_at, is_within, is_list, are_left}
use Rattle.fr_state.proofs.OrderLemmas.{AreOrdered-test}

-- ---- the limits: the test and the fact

pub IsGeneration-test : (g : LogGeneration) → is_within g ≡ true → IsGeneration g
unfolding is_within
IsGeneration-test g e =
    let a = and_parts _ _ e in
    let b = and_parts _ _ a.0 in
    let epoch = and_parts _ _ b.0 in
    let k = and_parts _ _ b.1 in
    let logs = and_parts _ _ k.0 in
    let v = and_parts _ _ a.1 in
    let w = and_parts _ _ v.0 in
    let first = and_parts _ _ w.0 in
    record {
      epoch_low = leb-true _ _ epoch.0;
      epoch_high = ltb-true _ _ epoch.1;
      k_low = leb-true _ _ logs.0;
      k_high = leb-true _ _ logs.1;
      m_high = leb-true _ _ k.1;
      first_low = leb-true _ _ first.0;
      first_high = ltb-true _ _ first.1;
      seeded_to_low = leb-true _ _ w.1;
      seeded_to_high = ltb-true _ _ v.1;
    }

pub is_within-true : (g : LogGeneration) → IsGeneration g → is_within g ≡ true
unfolding is_within
is_within-true g h =
    and_from _ _
    (and_from _ _ (and_from _ _ (le-leb _ _ h.epoch_low) (lt-ltb _ _ h.epoch_high))
    (and_from _ _ (and_from _ _ (le-leb _ _ h.k_low) (le-leb _ _ h.k_high)) (le-leb _ _ h.m_high)))
    (and_from _ _ (and_from _ _ (and_from _ _ (le-leb _ _ h.first_low) (lt-ltb _ _ h.first_high)) (le-leb _ _ h.seeded_to_low)) (lt-ltb _ _ h.seeded_to_high))

pub All-within : (gens : List LogGeneration) → list_all is_within gens ≡ true → All IsGeneration gens
All-within [] e = All-nil IsGeneration
All-within (g ∷ gens) e = let a = and_parts (is_within g) (list_all is_within gens) e in All-cons IsGeneration g gens (IsGeneration-test g a.0) (All-within gens a.1)

pub all_within-true : (gens : List LogGeneration) → All IsGeneration gens → list_all is_within gens ≡ true
all_within-true [] h = refl
all_within-true (g ∷ gens) h = and_from _ _ (is_within-true g (All-head IsGeneration g gens h)) (all_within-true gens (All-tail IsGeneration g gens h))

-- ---- states

pub length-generations_at : (n : ℕ) (bytes : List ℕ) → length (generations_at n bytes) ≡ n
length-generations_at zero bytes = refl
length-generations_at (suc n) bytes = ap suc (length-generations_at n (drop 26 bytes))

-- the first one's number, if there is one
pub first_epoch_at : (n : ℕ) (bytes : List ℕ) → 1 ≤ n → first_epoch_of (generations_at n bytes) ≡ number_at w64 0 bytes
unfolding generation_at
first_epoch_at zero bytes h = absurd (omega arith)
first_epoch_at (suc n) bytes h = refl

pub list_sound : (dropped n : ℕ) (bytes : List ℕ) → (1 ≤ n) × (n ≤ 64) → are_left dropped (generations_at n bytes) ≡ true → IsCoordinatedState (record { dropped = dropped; gens = generations_at n bytes })
list_sound dropped n bytes count e =
    let w = and_parts (is_list (generations_at n bytes)) (ltb dropped (first_epoch_of (generations_at n bytes))) e in
    let a = and_parts _ _ w.0 in
    record {
      limits = All-within (generations_at n bytes) a.0;
      ordered = AreOrdered-test (generations_at n bytes) a.1;
      some = omega (arith, length-generations_at n bytes);
      few = omega (arith, length-generations_at n bytes);
      below = ltb-true dropped (first_epoch_of (generations_at n bytes)) w.1;
    }

-- the test of the code, once the rows are a list
pub left_first : (dropped n : ℕ) (bytes : List ℕ) → 1 ≤ n → is_list (generations_at n bytes) ≡ true → ltb dropped (number_at w64 0 bytes) ≡ are_left dropped (generations_at n bytes)
left_first dropped n bytes some listed = rw (listed, first_epoch_at n bytes some) refl

taken : {A : Type 0} (b : Bool) (x y : A) (fault : StateDecodeFault) → cond b (Ok x) (Err fault) ≡ Ok y → (b ≡ true) × (x ≡ y)
taken true x y fault e = (refl, cc)
taken false x y fault e = absurd cc

pub counted : (bytes : List ℕ) (n : ℕ) (rest : List ℕ) → count_at bytes ≡ Ok (n, rest) → (1 ≤ n) × (n ≤ 64)
counted [] n rest e = absurd cc
counted (count ∷ bytes) n rest e =
    let t = taken (leb 1 count && leb count 64) (count, bytes) (n, rest) BadForm e in
    let a = and_parts _ _ t.0 in
    let k : count ≡ n = ap (λ (p : ℕ × List ℕ). p.0) t.1 in
    rw (← k) (leb-true _ _ a.0, leb-true _ _ a.1)
