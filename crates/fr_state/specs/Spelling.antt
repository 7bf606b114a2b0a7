-- The bytes of a state: format 1 if no generation was dropped, else format 2.
use Rattle.std.specs.Prelude.{List, [], ◌∷◌, ◌++◌, ℕ, ◌+◌, ◌*◌, ◌==◌, length, if◌then◌else◌}
use Rattle.std.specs.List.{flat_map}
use Rattle.std.specs.Int.{w64, to_be_bytes}
use Rattle.fr_state.specs.Generations.{LogGeneration, CoordinatedState}

-- a generation in 26 bytes: epoch (8), m (1), k (1), first (8), seeded_to (8)
unfoldable pub row : LogGeneration → List ℕ
row g = to_be_bytes w64 g.epoch ++ g.m ∷ g.k ∷ [] ++ to_be_bytes w64 g.first ++ to_be_bytes w64 g.seeded_to

-- the format: 1 if no generation was dropped, else 2 and how many were (8)
abbrev pub spelled_start : ℕ → List ℕ
spelled_start dropped = if dropped == 0 then 1 ∷ [] else 2 ∷ to_be_bytes w64 dropped

-- the format, the number of generations, and the generations
abbrev pub spelling : CoordinatedState → List ℕ
spelling s = spelled_start s.dropped ++ length s.gens ∷ flat_map row s.gens

-- how long that is: 2 bytes in format 1 and 10 in format 2, and 26 for each generation
abbrev pub length_spelled : CoordinatedState → ℕ
length_spelled s = (if s.dropped == 0 then 2 else 10) + 26 * length s.gens
