-- Numbered batches.
use Rattle.std.specs.Prelude.{ℕ, zero, suc, ◌*◌, ◌%◌, ◌==◌, List, [], ◌∷◌, ◌++◌, if◌then◌else◌}
use Rattle.std.specs.Int.{w32, to_be_bytes}
use Rattle.fr_mutation.specs.declared.mutation.Mutation.TheVariants.{Set}
use Rattle.fr_runtime_threads.specs.declared.order.Order.{Order}

-- the byte at which the shard of a batch begins, of so many
abbrev pub begin_of : ℕ → ℕ → ℕ
begin_of shards j = (if shards == 0 then 0 else j % shards) % 32 * 8

-- the batch of a number, from 0, of a workload: one set of its shard's key, one above the version before it
abbrev pub order_of : ℕ → ℕ → ℕ → Order
order_of number shards j = record { step = 1; batch = Set (begin_of shards j ∷ number ∷ []) (to_be_bytes w32 j) ∷ [] }

-- so many batches of a workload, the oldest first
unfoldable pub orders_of : ℕ → ℕ → ℕ → List Order
orders_of number shards zero = []
orders_of number shards (suc n) = orders_of number shards n ++ (order_of number shards n ∷ [])
