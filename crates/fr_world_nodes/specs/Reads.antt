-- What a world answers a read of a key at a version.
use Rattle.std.specs.Prelude.{◌≡◌, ℕ, List, Option, None, Result, IfOk, IfSome}
use Rattle.fr_mutation.specs.declared.shard.Shard.{Shard}
use Rattle.fr_undo.specs.declared.fault.StoreFault.TheVariants.{Memory}
use Rattle.fr_undo.specs.Undo.{value_undone}
use Rattle.fr_tags.specs.Shards.{shard_of}
use Rattle.fr_storage.specs.declared.fault.ReadFault.{ReadFault}
use Rattle.fr_storage.specs.Reads.{read_fault, read_refusal, read_trouble}
use Rattle.fr_storage.specs.Storage.{StorageState}
use Rattle.fr_run.specs.Config.{Config}
use Rattle.fr_run.specs.Turn.{Turn}
use Rattle.fr_run.specs.Nodes.{storage_at}

-- the answer of the storage server of a shard: the value that the key had then, or the first reason why it does not say; out of memory it
-- says nothing
pub record IsRead (shard : Shard) (s : StorageState) (key : List ℕ) (version : ℕ) (answer : Result (Option (List ℕ)) ReadFault) : Type 0 where
  pub value : IfOk answer (λ value. value ≡ value_undone s.store version key)
  pub refused : read_trouble answer ≡ None → read_refusal answer ≡ read_fault shard s.store.floor s.store.applied key version
  pub memory : IfSome (read_trouble answer) (λ fault. fault ≡ Memory)

-- that of the storage server of a tag after what happened, if there is such a shard
abbrev pub IsReadAt : Config → List Turn → ℕ → List ℕ → ℕ → Result (Option (List ℕ)) ReadFault → Type 0
IsReadAt c h tag key version answer = IfSome (shard_of c.begins tag) (λ shard. IsRead shard (storage_at c h tag) key version answer)
