-- The order of generations as a test, a list with one generation more, and one without its first generations.
use Rattle.std.specs.Prelude.{ℕ, ◌+◌, Bool, true, ◌&&◌, ◌==◌, nat_lt, nat_le, List, [], ◌∷◌, ◌++◌, length, drop, position, Option, Result, Ok, Err, if◌then◌else◌}
use Rattle.std.specs.Option.{option_map}
use Rattle.fr_state.specs.declared.fault.StateFault.{StateFault}
use Rattle.fr_state.specs.declared.fault.StateFault.TheVariants.{NotLater, TooMany}
use Rattle.fr_state.specs.Generations.{LogGeneration, CoordinatedState}

-- whether next may stand after g
abbrev pub may_follow : LogGeneration → LogGeneration → Bool
may_follow g next = nat_lt g.epoch next.epoch && (nat_le g.first next.first && nat_le g.seeded_to next.seeded_to)

-- whether each generation follows the one before it
abbrev pub is_ordered : List LogGeneration → Bool
is_ordered [] = true
is_ordered (g ∷ []) = true
is_ordered (g ∷ next ∷ gens) = may_follow g next && is_ordered (next ∷ gens)

-- the state with one generation more, or why there is none
abbrev pub extended : CoordinatedState → LogGeneration → Result CoordinatedState StateFault
extended s g =
    if is_ordered (s.gens ++ g ∷ [])
    then (if nat_lt (length s.gens) 64 then Ok (record s { gens = s.gens ++ g ∷ [] }) else Err TooMany)
    else Err NotLater

-- the state without its first generations, so many
abbrev pub without_first : CoordinatedState → ℕ → CoordinatedState
without_first s n = record { dropped = s.dropped + n; gens = drop n s.gens }

-- the state without the generations before that of an epoch; none if the epoch is not there
abbrev pub dropped_before : CoordinatedState → ℕ → Option CoordinatedState
dropped_before s epoch = option_map (without_first s) (position (λ g. g.epoch == epoch) s.gens)
