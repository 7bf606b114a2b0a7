-- What follows for pushes that form a chain, and for records that rise.
use Rattle.std.proofs.Common.{◌≡◌, ℕ, zero, suc, ◌+◌, ◌<◌, ◌≤◌, true, ◌&&◌, ◌||◌, List, [], ◌∷◌, length, get_or, nat_lt, nat_le, eqb, inl, inr, arith, max}
use Rattle.std.specs.Prelude.{fold}
use Rattle.std.specs.List.Sorted.{IsNonDecreasingBy}
use Rattle.std.proofs.lemmas.Bool.{and_parts, or_cases, ltb-true, eqb-true}
use Rattle.fr_log.specs.declared.records.SeedRecord.{SeedRecord}
use Rattle.fr_log.specs.Seed.{is_rising_from}
use Rattle.fr_log.specs.declared.popped.PoppedTag.{PoppedTag}
use Rattle.fr_log.specs.Left.{left_push}
use Rattle.fr_log.specs.Search.{is_found}
use Rattle.fr_log.specs.Push.{PushContent, is_one_push, is_one_push-parts}

-- ---- pushes

-- the greatest of some versions and of those of pushes
abbrev pub reach : ℕ → List PushContent → ℕ
reach version ps = fold (λ v p. max v p.version) version ps

pub reach_above : (version : ℕ) (ps : List PushContent) → version ≤ reach version ps
reach_above version [] = omega arith
reach_above version (p ∷ ps) = let k = reach_above (max version p.version) ps in omega arith

-- a push that is held is not above what the log reaches
pub held_within_reach : (popped : List PoppedTag) (version : ℕ) (p : PushContent) (ps : List PushContent) → is_found popped p ps ≡ true → p.version ≤ reach version ps
held_within_reach popped version p [] held = absurd (cc)
held_within_reach popped version p (q ∷ ps) held = elim (or_cases (is_one_push (left_push popped p) (left_push popped q)) (is_found popped p ps) held) [
  | inl here ↦
      let same : p.version ≡ q.version = (is_one_push-parts (left_push popped p) (left_push popped q) here).version in
      let k = reach_above (max version q.version) ps in
      omega (arith, same, k)
  | inr later ↦ held_within_reach popped (max version q.version) p ps later
]

-- ---- records of a seed

-- the first record is not below the place from which on they rise, and the others rise from it on
rising_parts : (version tag : ℕ) (r : SeedRecord) (rs : List SeedRecord) → is_rising_from version tag (r ∷ rs) ≡ true → (version ≤ r.version) × (is_rising_from r.version (r.tag + 1) rs ≡ true)
rising_parts version tag r rs rising = (here, parts.1)
  where
    parts : ((nat_lt version r.version || (eqb version r.version && nat_le tag r.tag)) ≡ true) × (is_rising_from r.version (r.tag + 1) rs ≡ true)
    parts = and_parts (nat_lt version r.version || (eqb version r.version && nat_le tag r.tag)) (is_rising_from r.version (r.tag + 1) rs) rising

    here : version ≤ r.version
    here = elim (or_cases (nat_lt version r.version) (eqb version r.version && nat_le tag r.tag) parts.0) [
      | inl less ↦ let k = ltb-true version r.version less in omega arith
      | inr same ↦ let k = eqb-true version r.version (and_parts (eqb version r.version) (nat_le tag r.tag) same).0 in omega arith
    ]

pub seed_above : (version tag : ℕ) (rs : List SeedRecord) → is_rising_from version tag rs ≡ true → (k : ℕ) (d : SeedRecord) → k < length rs → version ≤ (get_or rs k d).version
seed_above version tag [] rising k d within = absurd (omega arith)
seed_above version tag (r ∷ rs) rising zero d within = (rising_parts version tag r rs rising).0
seed_above version tag (r ∷ rs) rising (suc k) d within =
    let parts = rising_parts version tag r rs rising in
    let later = seed_above r.version (r.tag + 1) rs parts.1 k d (omega arith) in
    omega arith

pub seed_non_decreasing : (version tag : ℕ) (rs : List SeedRecord) → is_rising_from version tag rs ≡ true → IsNonDecreasingBy (λ r. r.version) rs
seed_non_decreasing version tag [] rising i j d upto within = absurd (omega arith)
seed_non_decreasing version tag (r ∷ rs) rising zero zero d upto within = omega arith
seed_non_decreasing version tag (r ∷ rs) rising zero (suc j) d upto within = seed_above r.version (r.tag + 1) rs (rising_parts version tag r rs rising).1 j d (omega arith)
seed_non_decreasing version tag (r ∷ rs) rising (suc i) zero d upto within = absurd (omega arith)
seed_non_decreasing version tag (r ∷ rs) rising (suc i) (suc j) d upto within =
    seed_non_decreasing r.version (r.tag + 1) rs (rising_parts version tag r rs rising).1 i j d (omega arith) (omega arith)
