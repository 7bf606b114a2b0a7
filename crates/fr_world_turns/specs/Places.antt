-- Places in a list of turns, by keys.
use Rattle.std.specs.Prelude.{◌≡◌, ℕ, Bool, true, false, List, [], ◌∷◌, slice_get, Option, None, Some}
use Rattle.std.specs.Ordering.{nat_cmp, ordering_then}
use Rattle.std.specs.declared.cmp.Ordering.{Ordering}
use Rattle.std.specs.List.{list_any}
use Rattle.std.specs.BTreeMap as tree
use Rattle.std.specs.BTreeMap.{BTreeMap}
use Rattle.fr_world_turns.specs.declared.places.Found.{Found}
use Rattle.fr_world_turns.specs.declared.places.Found.TheVariants.{One, Several}

-- a key is three numbers, and keys are in the order of them
abbrev pub Key : Type 0
Key = ℕ × ℕ × ℕ

abbrev pub key_cmp : Key → Key → Ordering
key_cmp a b = ordering_then (ordering_then (nat_cmp a.0 b.0) (nat_cmp a.1 b.1)) (nat_cmp a.2 b.2)

abbrev pub Places : Type 0
Places = BTreeMap Key Found

-- one place, or several
abbrev pub found_at : Found → List ℕ
found_at (One place) = place ∷ []
found_at (Several places) = places.value.items

abbrev pub places_of : Option Found → List ℕ
places_of None = []
places_of (Some found) = found_at found

-- the places under a key
abbrev pub under : Places → Key → List ℕ
under m k = places_of (tree.get key_cmp m k)

-- what a test finds among some places it finds among others
abbrev pub Keeps : List ℕ → List ℕ → Type 0
Keeps places later = (f : ℕ → Bool) → list_any f places ≡ true → list_any f later ≡ true

-- what a test finds under a key it finds there later
abbrev pub Grows : Places → Places → Type 0
Grows m n = (k : Key) (f : ℕ → Bool) → list_any f (under m k) ≡ true → list_any f (under n k) ≡ true

-- a place is among some
abbrev pub IsAmong : ℕ → List ℕ → Type 0
IsAmong place places = (f : ℕ → Bool) → f place ≡ true → list_any f places ≡ true

-- a place is under a key
abbrev pub IsUnder : Places → Key → ℕ → Type 0
IsUnder m k place = (f : ℕ → Bool) → f place ≡ true → list_any f (under m k) ≡ true

abbrev pub passes : {X : Type 0} → (X → Bool) → Option X → Bool
passes p None = false
passes p (Some x) = p x

-- whether there is an item at a place that passes a test
abbrev pub holds_at : {X : Type 0} → (X → Bool) → List X → ℕ → Bool
holds_at p xs place = passes p (slice_get xs place)
