-- The batches that a workload draws.
use Rattle.std.specs.Prelude.{ℕ, zero, suc, ◌*◌, ◌/◌, ◌%◌, ◌==◌, List, [], ◌∷◌, ◌++◌, if◌then◌else◌}
use Rattle.std.specs.Int.{w32, to_be_bytes}
use Rattle.rand_pcg.specs.Lcg.{Lcg}
use Rattle.rand_pcg.specs.Pcg.{pcg32}
use Rattle.fr_mutation.specs.declared.atomic.AtomicOp.TheVariants.{Add, Xor}
use Rattle.fr_mutation.specs.declared.mutation.Mutation.{Mutation}
use Rattle.fr_mutation.specs.declared.mutation.Mutation.TheVariants.{Set, Clear, Atomic}
use Rattle.fr_runtime_threads.specs.declared.order.Order.{Order}

-- the byte at which the shard begins that a word names, of so many
abbrev pub begin_of : ℕ → ℕ → ℕ
begin_of shards x = x % shards * 8

-- one of four keys of that shard
abbrev pub key_of : ℕ → ℕ → List ℕ
key_of shards x = begin_of shards x ∷ x / 256 % 4 ∷ []

-- the mutation of two words: a set, an add or a combination by exclusive or at the key, or a clear of the first two keys
abbrev pub mutation_of : ℕ → ℕ → ℕ → Mutation
mutation_of shards x y =
    if x / 65536 % 4 == 0 then Set (key_of shards x) (to_be_bytes w32 y)
    else (if x / 65536 % 4 == 1 then Atomic Add (key_of shards x) (to_be_bytes w32 y)
    else (if x / 65536 % 4 == 2 then Atomic Xor (key_of shards x) (to_be_bytes w32 y)
    else Clear (begin_of shards x ∷ []) (begin_of shards x ∷ 2 ∷ [])))

-- the batch of the next two words, of one mutation
abbrev pub batch_of : ℕ → Lcg → List Mutation
batch_of shards g = mutation_of shards (pcg32 g).0 (pcg32 (pcg32 g).1).0 ∷ []

-- the generator after these
abbrev pub after_batch : Lcg → Lcg
after_batch g = (pcg32 (pcg32 g).1).1

-- the generator after so many batches
unfoldable pub after_batches : ℕ → Lcg → Lcg
after_batches zero g = g
after_batches (suc n) g = after_batch (after_batches n g)

-- so many batches, each one above the version before it, the oldest first
unfoldable pub drawn_orders : ℕ → ℕ → Lcg → List Order
drawn_orders shards zero g = []
drawn_orders shards (suc n) g =
    drawn_orders shards n g ++ (record { step = 1; batch = batch_of shards (after_batches n g) } ∷ [])
