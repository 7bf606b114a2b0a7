-- How the keys are cut into shards.
use Rattle.std.specs.Prelude.{ℕ, ◌+◌, ◌-◌, ◌==◌, Bool, ◌&&◌, not, is_some, nat_lt, nat_le, List, [], length, drop, slice_get, slice_index_or, Option, None, Some, if◌then◌else◌, count_by, filter}
use Rattle.std.specs.List.{list_any, list_all, zip, range_with_len}
use Rattle.std.specs.Ordering.{is_le, is_lt}
use Rattle.fr_base.specs.Bytes.{bytes_cmp}
use Rattle.fr_mutation.specs.Clip.{later, earlier, clip_one}
use Rattle.fr_mutation.specs.declared.mutation.Mutation.{Mutation}
use Rattle.fr_mutation.specs.declared.shard.Shard.{Shard}
use Rattle.fr_tags.specs.declared.fault.ShardFault.{ShardFault}
use Rattle.fr_tags.specs.declared.fault.ShardFault.TheVariants.{NotSorted, Empty, Uncovered, TooMany, BeginTooLong}

-- whether a begin has more than 10,000 bytes
abbrev pub has_long : List (List ℕ) → Bool
has_long begins = list_any (λ begin. nat_lt 10000 (length begin)) begins

-- whether each begin is below the next one
abbrev pub rises : List (List ℕ) → Bool
rises begins = list_all (λ pair. is_lt (bytes_cmp pair.0 pair.1)) (zip begins (drop 1 begins))

-- the first rule that begins break: there are some, 32 at most, of 10,000 bytes at most, the first one is the empty key,
-- and each is above the one before
abbrev pub shard_fault : List (List ℕ) → Option ShardFault
shard_fault begins =
    if length begins == 0 then Some Empty
    else if nat_lt 32 (length begins) then Some TooMany
    else if has_long begins then Some BeginTooLong
    else if nat_lt 0 (length (slice_index_or begins 0 [])) then Some Uncovered
    else if not (rises begins) then Some NotSorted
    else None

-- the shard of number t begins at the begin of that number, and ends where the next one begins
abbrev pub shard_at : List (List ℕ) → ℕ → Shard
shard_at begins t = record { begin = slice_index_or begins t []; end = slice_get begins (t + 1) }

-- the shard of tag t, if the map has that many
abbrev pub shard_of : List (List ℕ) → ℕ → Option Shard
shard_of begins t = if nat_lt t (length begins) then Some (shard_at begins t) else None

-- how many shards begin at or below a key
abbrev pub begun : List (List ℕ) → List ℕ → ℕ
begun begins key = count_by (λ begin. is_le (bytes_cmp begin key)) begins

-- how many shards begin below a key
abbrev pub begun_before : List (List ℕ) → List ℕ → ℕ
begun_before begins key = count_by (λ begin. is_lt (bytes_cmp begin key)) begins

-- the tag of a key: that of the last shard that begins at or below it
abbrev pub tag_of : List (List ℕ) → List ℕ → ℕ
tag_of begins key = begun begins key - 1

-- whether a shard has a key from begin on and below end: the later of the two begins is then below the earlier of the two
-- ends
abbrev pub meets_range : List ℕ → List ℕ → Shard → Bool
meets_range begin end s = is_lt (bytes_cmp (later begin s.begin) (earlier end s.end))

-- whether a mutation acts on a key of the shard, so that clipping it to the shard leaves something
abbrev pub meets : Mutation → Shard → Bool
meets mutation s = is_some (clip_one s mutation)

-- from <= t < to
abbrev pub is_from_to : ℕ → ℕ → ℕ → Bool
is_from_to from to t = nat_le from t && nat_lt t to

-- the tags of the shards that a mutation meets
abbrev pub tags_of : List (List ℕ) → Mutation → List ℕ
tags_of begins mutation = filter (λ t. meets mutation (shard_at begins t)) (range_with_len 0 (length begins))
