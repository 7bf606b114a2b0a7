-- The end and the cut of a generation, the source of a version, and the generation that numbers it.
use Rattle.std.specs.Prelude.{ℕ, ◌+◌, ◌-◌, nat_lt, nat_le, ◌==◌, List, reverse, find, position, slice_get, Option}
use Rattle.std.specs.Option.{option_map, option_and_then}
use Rattle.fr_state.specs.Generations.{LogGeneration}

-- the generation right after the one of an epoch; none after the last one and for an epoch that is not there
abbrev pub next_of : List LogGeneration → ℕ → Option LogGeneration
next_of gens epoch = option_and_then (λ i. slice_get gens (i + 1)) (position (λ g. g.epoch == epoch) gens)

-- the end of an epoch's generation: the version before the one at which the next generation starts
abbrev pub end_of : List LogGeneration → ℕ → Option ℕ
end_of gens epoch = option_map (λ next. next.first - 1) (next_of gens epoch)

-- its cut: the last version that the next generation took over, at which its own numbers stop to count
abbrev pub cut_of : List LogGeneration → ℕ → Option ℕ
cut_of gens epoch = option_map (λ next. next.seeded_to) (next_of gens epoch)

-- the source of a version: the last generation that starts at or below it
abbrev pub source_of : List LogGeneration → ℕ → Option LogGeneration
source_of gens version = find (λ g. nat_le g.first version) (reverse gens)

-- the owner of a version, which numbered it: the last generation that was seeded only with versions below it
abbrev pub owner_of : List LogGeneration → ℕ → Option LogGeneration
owner_of gens version = find (λ g. nat_lt g.seeded_to version) (reverse gens)
