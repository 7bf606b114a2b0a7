use Rattle.std.proofs.Common.{◌≡◌, false, ℕ, ◌<◌, length, take, get_or}
use Rattle.std.specs.List.{list_any}
use Rattle.fr_tags.specs.Shards.{shard_at, meets}
use Rattle.fr_tags.proofs.map.ShardMap.met.Given as goal

-- the shards that a front of the mutations meets are marked
abbrev pub invariant-loop-mutation : goal.invariant-loop-mutation
invariant-loop-mutation l = (t : ℕ) → t < length l.self → get_or l.is_met t false ≡ list_any (λ mutation. meets mutation (shard_at l.self t)) (take l.mutation-index l.mutation-items)
