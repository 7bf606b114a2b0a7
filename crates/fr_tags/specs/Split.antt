-- What a batch is for each log of a generation.
use Rattle.std.specs.Prelude.{ℕ, Bool, List, map, filter, length}
use Rattle.std.specs.List.{range_with_len}
use Rattle.fr_mutation.specs.declared.mutation.Mutation.{Mutation}
use Rattle.fr_mutation.specs.Clip.{clipped}
use Rattle.fr_tags.specs.declared.body.Body.{Body}
use Rattle.fr_tags.specs.Bodies.{is_filled}
use Rattle.fr_tags.specs.Placement.{is_held}
use Rattle.fr_tags.specs.Shards.{shard_at}

-- a tag's body of a batch: the tag, with the batch clipped to its shard
abbrev pub body_of : List (List ℕ) → List Mutation → ℕ → Body
body_of begins batch t = record { tag = t; batch = clipped batch (shard_at begins t) }

abbrev pub is_filled_body : Body → Bool
is_filled_body body = is_filled body.batch

-- the bodies of all tags, in rising tags, without those that are empty
abbrev pub bodies : List (List ℕ) → List Mutation → List Body
bodies begins batch = filter is_filled_body (map (body_of begins batch) (range_with_len 0 (length begins)))

-- those whose tags a log holds
abbrev pub bodies_for : List Body → ℕ → ℕ → ℕ → List Body
bodies_for all m k log = filter (λ body. is_held body.tag m k log) all

-- each log's bodies of a batch, from log 0 to log m - 1
abbrev pub split : List (List ℕ) → List Mutation → ℕ → ℕ → List (List Body)
split begins batch m k = map (bodies_for (bodies begins batch) m k) (range_with_len 0 m)
