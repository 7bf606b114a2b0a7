-- What `==` answers of two states.
use Rattle.std.specs.Prelude.{◌≡◌, ℕ, ◌+◌, ◌-◌, ◌<◌, ◌≤◌, Bool, ◌&&◌, nat_eq, nat_lt, nat_le, List, [], ◌∷◌, ◌++◌, length, drop}
use Rattle.std.specs.List.{starts_with}
use Rattle.std.specs.Cmp.{IsEquivalence, on_equiv, and_equiv, nat_eq_equiv}
use Rattle.std.specs.Cmp.Lexicographic.{pointwise, lists_equiv, on_texts_equal}
use Rattle.fr_state.specs.Generations.{LogGeneration, CoordinatedState}

-- the numbers of a generation
abbrev pub numbers_of : LogGeneration → List ℕ
numbers_of g = g.epoch ∷ g.m ∷ g.k ∷ g.first ∷ g.seeded_to ∷ []

-- whether two generations have the same numbers
abbrev pub is_same_generation : LogGeneration → LogGeneration → Bool
is_same_generation g h = pointwise nat_eq (numbers_of g) (numbers_of h)

-- whether two states dropped as many generations, and have the same ones left, one by one
abbrev pub is_same_state : CoordinatedState → CoordinatedState → Bool
is_same_state s t = nat_eq s.dropped t.dropped && pointwise is_same_generation s.gens t.gens

-- whether a list of generations begins with another
abbrev pub begins_with : List LogGeneration → List LogGeneration → Bool
begins_with gens front = starts_with is_same_generation gens front

-- the list is the front, and what stands behind it
abbrev pub IsFront : List LogGeneration → List LogGeneration → Type 0
IsFront front gens = (more : List LogGeneration) × (gens ≡ front ++ more)

-- whether a state goes on from another: it dropped no fewer generations, one of the other's is left at least, and it begins with
-- those that are left
abbrev pub goes_on : CoordinatedState → CoordinatedState → Bool
goes_on own s =
    nat_le own.dropped s.dropped
    && (nat_lt s.dropped (own.dropped + length own.gens) && begins_with s.gens (drop (s.dropped - own.dropped) own.gens))

-- the same in words
pub record GoesOn (own s : CoordinatedState) : Type 0 where
  pub no_fewer : own.dropped ≤ s.dropped
  pub one_left : s.dropped < own.dropped + length own.gens
  pub front : IsFront (drop (s.dropped - own.dropped) own.gens) s.gens

pub is_same_state_equiv : IsEquivalence is_same_state
is_same_state_equiv = and_equiv (on_equiv (λ s. s.dropped) nat_eq_equiv) (on_equiv (λ s. s.gens) (lists_equiv (on_texts_equal numbers_of)))
