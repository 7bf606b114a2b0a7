-- What an epoch issues, what of it is a tag's, and what is committed.
use Rattle.fr_run.specs.Batches.{batch_at}
use Rattle.fr_run.specs.States.{line_of}
use Rattle.std.specs.Prelude.{ℕ, nat_lt, nat_le, ◌&&◌, List, [], ◌∷◌, ◌++◌, length, map, reverse, filter, fold, min, Option, None, Some, if◌then◌else◌}
use Rattle.std.specs.List.{range_with_len, filter_map}
use Rattle.fr_mutation.specs.declared.mutation.Mutation.{Mutation}
use Rattle.fr_mutation.specs.Clip.{clipped}
use Rattle.fr_tags.specs.Shards.{shard_at}
use Rattle.fr_state.specs.Generations.{LogGeneration}
use Rattle.fr_log.specs.LogState.{durable_of}
use Rattle.fr_run.specs.Config.{Config}
use Rattle.fr_run.specs.Turn.{Turn}
use Rattle.fr_run.specs.Nodes.{generation_at, mark_version, logs_at, log_at}
use Rattle.fr_run_headline.specs.Numbers.{Numbering, numbers}

-- a version with the epoch that numbered it, and its batch; a mark has none
pub record Entry : Type 0 where
  pub version : ℕ
  pub origin : ℕ
  pub batch : Option (List Mutation)

abbrev pub entry_of : List Turn → ℕ → Numbering → Entry
entry_of h e n = record { version = n.version; origin = e; batch = batch_at h e n.proxy n.request }

-- the entries of an epoch's own numbers, after its mark
abbrev pub entries : Config → List Turn → ℕ → List Entry
entries c h e = record { version = mark_version (generation_at c h e); origin = e; batch = None } ∷ map (entry_of h e) (reverse (numbers h e))

-- the entries of each generation of a list, through what the next one was seeded to
abbrev pub issued_of : (ℕ → List Entry) → List LogGeneration → List Entry
issued_of entries [] = []
issued_of entries (g ∷ []) = entries g.epoch
issued_of entries (g ∷ next ∷ gens) = filter (λ x. nat_le x.version next.seeded_to) (entries g.epoch) ++ issued_of entries (next ∷ gens)

-- what an epoch issued: its predecessors' entries through what each next one was seeded to, then its own
abbrev pub issued : Config → List Turn → ℕ → List Entry
issued c h e = issued_of (entries c h) (line_of c h e)

-- a tag's part of an entry, if it is not empty
abbrev pub filled : ℕ → List Mutation → Option (ℕ × List Mutation)
filled version batch = if nat_lt 0 (length batch) then Some (version, batch) else None

abbrev pub part_in : Config → ℕ → ℕ → Option (List Mutation) → Option (ℕ × List Mutation)
part_in c tag version None = None
part_in c tag version (Some batch) = filled version (clipped batch (shard_at c.begins tag))

-- what is to be applied of a tag above a version and through another
abbrev pub part : Config → List Turn → ℕ → ℕ → ℕ → ℕ → List (ℕ × List Mutation)
part c h e tag after upto = filter_map (λ x. part_in c tag x.version x.batch) (filter (λ x. nat_lt after x.version && nat_le x.version upto) (issued c h e))

-- the least version that the logs of an epoch hold, of lost ones too
abbrev pub least_durable : Config → List Turn → ℕ → ℕ
least_durable c h e = fold (λ v i. min v (durable_of (log_at c h e i))) (durable_of (log_at c h e 0)) (range_with_len 0 (logs_at c h e))

-- the committed list, by the chosen epoch of the greatest ballot
abbrev pub committed : Config → List Turn → ℕ → List Entry
committed c h e = filter (λ x. nat_le x.version (least_durable c h e)) (issued c h e)
