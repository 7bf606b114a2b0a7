-- What mutations do in a shard.
use Rattle.std.specs.Prelude.{ℕ, List, Option, None, Some, if◌then◌else◌}
use Rattle.std.specs.Bool.{then_some}
use Rattle.std.specs.Option.{option_map_or}
use Rattle.std.specs.Ordering.{is_lt}
use Rattle.std.specs.List.{filter_map}
use Rattle.fr_base.specs.Bytes.{bytes_cmp}
use Rattle.fr_mutation.specs.Mutation.{key_of}
use Rattle.fr_mutation.specs.Shard.{in_shard}
use Rattle.fr_mutation.specs.declared.mutation.Mutation.{Mutation}
use Rattle.fr_mutation.specs.declared.mutation.Mutation.TheVariants.{Clear}
use Rattle.fr_mutation.specs.declared.shard.Shard.{Shard}

-- the later of two keys
abbrev pub later : List ℕ → List ℕ → List ℕ
later a b = if is_lt (bytes_cmp a b) then b else a

-- the earlier of two ends, of which the second may be missing
abbrev pub earlier : List ℕ → Option (List ℕ) → List ℕ
earlier end None = end
earlier end (Some limit) = if is_lt (bytes_cmp limit end) then limit else end

-- a clear, unless it is of no key
abbrev pub clear_of : List ℕ → List ℕ → Option Mutation
clear_of begin end = then_some (is_lt (bytes_cmp begin end)) (Clear begin end)

-- a clear of the keys that a clear and the shard share, if there are any
abbrev pub clip_clear : Shard → Mutation → Option Mutation
clip_clear s (Clear begin end) = clear_of (later begin s.begin) (earlier end s.end)
clip_clear s _ = None

-- a mutation as far as it acts on keys of the shard: one with a key acts there wholly or not at all
abbrev pub clip_one : Shard → Mutation → Option Mutation
clip_one s mutation = option_map_or (λ key. then_some (in_shard s key) mutation) (key_of mutation) (clip_clear s mutation)

-- the same of one mutation after the other
abbrev pub clipped : List Mutation → Shard → List Mutation
clipped mutations s = filter_map (clip_one s) mutations
