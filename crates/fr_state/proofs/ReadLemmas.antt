-- Rows read one after another.
use Rattle.std.proofs.Common.{◌≡◌, ℕ, suc, ◌+◌, ◌-◌, ◌<◌, ◌&&◌, Bool, true, false, cond, List, [], ◌∷◌, ◌++◌, drop, Option, Some, None, refl, sym, ap, ◌∙◌, append_assoc, arith}
use Rattle.std.specs.Prelude.{MatchOption}
use Rattle.std.specs.List.{list_all}
use Rattle.std.proofs.lemmas.Bool.{true≢false, and_left, and_right, and_parts}
use Rattle.fr_state.specs.Generations.{LogGeneration}
use Rattle.fr_state.specs.Order.{may_follow, is_ordered}
use Rattle.fr_state.specs.Reading.{generation_at, generations_at, is_within, is_list}

-- ---- the test of a list, row by row

-- whether generations within their limits are in order, after one that stands before them
abbrev pub is_list_after : Option LogGeneration → List LogGeneration → Bool
is_list_after None gens = is_list gens
is_list_after (Some last) gens = list_all is_within gens && is_ordered (last ∷ gens)

-- the rows that are left, after one was read
left : (count i : ℕ) (bytes : List ℕ) (g : LogGeneration) → i < count → generation_at bytes ≡ g → g ∷ generations_at (count - (i + 1)) (drop 26 bytes) ≡ generations_at (count - i) bytes
left count i bytes g lt is = let k : count - i ≡ suc (count - (i + 1)) = omega arith in rw (k, ← is) refl

passes : (last : Option LogGeneration) (r : Bool) (g : LogGeneration) (gens : List LogGeneration) → MatchOption last (r ≡ true) (λ before. r ≡ may_follow before g)
    → is_within g ≡ true → r ≡ true → is_list_after (Some g) gens ≡ is_list_after last (g ∷ gens)
passes None r g gens came within passed = rw within refl
passes (Some before) r g gens came within passed = let k : may_follow before g ≡ true = sym came ∙ passed in rw (within, k) refl

fails : (last : Option LogGeneration) (r : Bool) (g : LogGeneration) (gens : List LogGeneration) → MatchOption last (r ≡ true) (λ before. r ≡ may_follow before g)
    → r ≡ false → false ≡ is_list_after last (g ∷ gens)
fails None r g gens came failed = absurd (true≢false (sym came ∙ failed))
fails (Some before) r g gens came failed =
    sym (and_right (list_all is_within (g ∷ gens)) (is_ordered (before ∷ g ∷ gens)) (and_left (may_follow before g) (is_ordered (g ∷ gens)) (sym came ∙ failed)))

beyond : (last : Option LogGeneration) (g : LogGeneration) (gens : List LogGeneration) → is_within g ≡ false → false ≡ is_list_after last (g ∷ gens)
beyond None g gens out = rw out refl
beyond (Some before) g gens out = rw out refl

pub list_goes_on : (last : Option LogGeneration) (r : Bool) (g : LogGeneration) (count i : ℕ) (bytes : List ℕ) (total : Bool) → i < count → (is_within (generation_at bytes) ≡ true) × (generation_at bytes ≡ g)
    → MatchOption last (r ≡ true) (λ before. r ≡ may_follow before g) → r ≡ true → is_list_after last (generations_at (count - i) bytes) ≡ total
    → is_list_after (Some g) (generations_at (count - (i + 1)) (drop 26 bytes)) ≡ total
list_goes_on last r g count i bytes total lt read came passed so_far =
    passes last r g (generations_at (count - (i + 1)) (drop 26 bytes)) came (ap is_within (sym read.1) ∙ read.0) passed ∙ ap (is_list_after last) (left count i bytes g lt read.1) ∙ so_far

pub list_fails : (last : Option LogGeneration) (r : Bool) (g : LogGeneration) (count i : ℕ) (bytes : List ℕ) (total : Bool) → i < count → (is_within (generation_at bytes) ≡ true) × (generation_at bytes ≡ g)
    → MatchOption last (r ≡ true) (λ before. r ≡ may_follow before g) → r ≡ false → is_list_after last (generations_at (count - i) bytes) ≡ total → false ≡ total
list_fails last r g count i bytes total lt read came failed so_far =
    fails last r g (generations_at (count - (i + 1)) (drop 26 bytes)) came failed ∙ ap (is_list_after last) (left count i bytes g lt read.1) ∙ so_far

pub list_beyond : (last : Option LogGeneration) (count i : ℕ) (bytes : List ℕ) (total : Bool) → i < count → is_within (generation_at bytes) ≡ false
    → is_list_after last (generations_at (count - i) bytes) ≡ total → false ≡ total
list_beyond last count i bytes total lt out so_far =
    beyond last (generation_at bytes) (generations_at (count - (i + 1)) (drop 26 bytes)) out ∙ ap (is_list_after last) (left count i bytes (generation_at bytes) lt refl) ∙ so_far

-- ---- the generations, row by row

pub all_within : (count i : ℕ) (bytes : List ℕ) → i < count → list_all is_within (generations_at (count - i) bytes) ≡ true
    → (is_within (generation_at bytes) ≡ true) × (list_all is_within (generations_at (count - (i + 1)) (drop 26 bytes)) ≡ true)
all_within count i bytes lt e =
    and_parts (is_within (generation_at bytes)) (list_all is_within (generations_at (count - (i + 1)) (drop 26 bytes))) (ap (list_all is_within) (left count i bytes (generation_at bytes) lt refl) ∙ e)

pub gens_go_on : (gens : List LogGeneration) (g : LogGeneration) (count i : ℕ) (bytes : List ℕ) (total : List LogGeneration) → i < count → generation_at bytes ≡ g
    → gens ++ generations_at (count - i) bytes ≡ total → (gens ++ g ∷ []) ++ generations_at (count - (i + 1)) (drop 26 bytes) ≡ total
gens_go_on gens g count i bytes total lt is so_far =
    append_assoc gens (g ∷ []) (generations_at (count - (i + 1)) (drop 26 bytes)) ∙ ap (λ (rows : List LogGeneration). gens ++ rows) (left count i bytes g lt is) ∙ so_far

-- what a row was read as
pub read_some : (b : Bool) (g next : LogGeneration) → cond b (Some g) None ≡ Some next → (b ≡ true) × (g ≡ next)
read_some true g next e = (refl, cc)
read_some false g next e = absurd cc

pub read_none : (b : Bool) (g : LogGeneration) → cond b (Some g) None ≡ None → b ≡ false
read_none true g e = absurd cc
read_none false g e = refl
