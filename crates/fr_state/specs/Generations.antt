-- Generations of logs, and the list of them that the coordinators keep.
use Rattle.std.specs.Prelude.{ℕ, ◌+◌, ◌<◌, ◌≤◌, ◌^◌, List, [], ◌∷◌, Option, None, Some, length, All}

-- a generation: its number, how many logs it has (m), on how many of them each tag stands (k), the version
-- at which it starts, and the last version that its logs were seeded with
pub record LogGeneration : Type 0 where
  pub epoch : ℕ
  pub m : ℕ
  pub k : ℕ
  pub first : ℕ
  pub seeded_to : ℕ

-- the limits of a generation
pub record IsGeneration (g : LogGeneration) : Type 0 where
  pub epoch_low : 256 ≤ g.epoch
  pub epoch_high : g.epoch < 2 ^ 48
  pub k_low : 1 ≤ g.k
  pub k_high : g.k ≤ g.m
  pub m_high : g.m ≤ 16
  pub first_low : 1 ≤ g.first
  pub first_high : g.first < 2 ^ 62
  pub seeded_to_low : g.first ≤ g.seeded_to + 1
  pub seeded_to_high : g.seeded_to < 2 ^ 62

-- next may stand after g: its epoch is above, and it neither starts earlier nor was seeded less far
pub record Follows (g next : LogGeneration) : Type 0 where
  pub epoch : g.epoch < next.epoch
  pub first : g.first ≤ next.first
  pub seeded_to : g.seeded_to ≤ next.seeded_to

-- each generation follows the one before it
abbrev pub AreOrdered : List LogGeneration → Type 0
AreOrdered [] = Unit {0}
AreOrdered (g ∷ []) = Unit {0}
AreOrdered (g ∷ next ∷ gens) = Follows g next × AreOrdered (next ∷ gens)

-- the last generation, which is the current one
abbrev pub last_of : List LogGeneration → Option LogGeneration
last_of [] = None
last_of (g ∷ []) = Some g
last_of (g ∷ next ∷ gens) = last_of (next ∷ gens)

-- the epoch of the first of some generations, 0 if there is none
abbrev pub first_epoch_of : List LogGeneration → ℕ
first_epoch_of [] = 0
first_epoch_of (g ∷ gens) = g.epoch

-- what the coordinators keep: how many generations were dropped, and those that are left, from the oldest to the current one
pub record CoordinatedState : Type 0 where
  pub dropped : ℕ
  pub gens : List LogGeneration

-- 1 to 64 generations, each within its limits, in order; fewer were dropped than the epoch of the first one that is left says
pub record IsCoordinatedState (s : CoordinatedState) : Type 0 where
  pub limits : All IsGeneration s.gens
  pub ordered : AreOrdered s.gens
  pub some : 1 ≤ length s.gens
  pub few : length s.gens ≤ 64
  pub below : s.dropped < first_epoch_of s.gens
