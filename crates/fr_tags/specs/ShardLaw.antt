-- The shards of a map cut the keys into parts.
use Rattle.std.specs.Prelude.{◌≡◌, ℕ, ◌<◌, ◌≤◌, ◌↔◌, List, length, None, IsTrue, Contains}
use Rattle.std.specs.List.Sorted.{IsStrictlyIncreasing}
use Rattle.fr_mutation.specs.Mutation.{touches}
use Rattle.fr_mutation.specs.Shard.{in_shard}
use Rattle.fr_mutation.specs.declared.mutation.Mutation.{Mutation}
use Rattle.fr_tags.specs.Shards.{shard_fault, shard_at, tag_of, tags_of}

abbrev pub EachMapHasOneTo32Shards : Type 0
EachMapHasOneTo32Shards = (begins : List (List ℕ)) → shard_fault begins ≡ None → (1 ≤ length begins) × (length begins ≤ 32)

-- each key has a tag
abbrev pub EachKeyHasATag : Type 0
EachKeyHasATag = (begins : List (List ℕ)) (key : List ℕ) → shard_fault begins ≡ None → tag_of begins key < length begins

-- and is in the shard of that tag, and in no other
abbrev pub EachKeyIsInOneShard : Type 0
EachKeyIsInOneShard =
    (begins : List (List ℕ)) (key : List ℕ) (t : ℕ) → shard_fault begins ≡ None → t < length begins → IsTrue (in_shard (shard_at begins t) key) ↔ (tag_of begins key ≡ t)

-- the tags of a mutation are those of the keys on which it acts
abbrev pub TagsAreOfTouchedKeys : Type 0
TagsAreOfTouchedKeys =
    (begins : List (List ℕ)) (mutation : Mutation) (t : ℕ) → shard_fault begins ≡ None → Contains (tags_of begins mutation) t ↔ ((key : List ℕ) × IsTrue (touches mutation key) × (tag_of begins key ≡ t))

-- in rising order, each once
abbrev pub TagsRise : Type 0
TagsRise = (begins : List (List ℕ)) (mutation : Mutation) → IsStrictlyIncreasing (tags_of begins mutation)
