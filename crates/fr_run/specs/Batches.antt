-- The batches that proxies took, and what they acknowledged.
use Rattle.std.specs.Prelude.{ℕ, ◌-◌, ◌==◌, ◌&&◌, List, [], ◌∷◌, reverse, slice_get, Option, Contains, if◌then◌else◌}
use Rattle.fr_base.specs.declared.place.NodeId.{NodeId}
use Rattle.fr_mutation.specs.declared.mutation.Mutation.{Mutation}
use Rattle.fr_ask.specs.declared.tell.Tell.{Tell}
use Rattle.fr_proxy.specs.declared.outcome.Outcome.TheVariants.{Committed}
use Rattle.fr_run.specs.Turn.{Turn, Sending, Begun, CellTurn, LogTurn, SeqTurn, Submitted, ProxyHeard, RecHeard, StorageHeard, Gone, Crashed}

abbrev pub batches_after : Turn → ℕ → ℕ → List (List Mutation) → List (List Mutation)
batches_after (Begun b shape asks) epoch proxy bs = bs
batches_after (CellTurn from i a t) epoch proxy bs = bs
batches_after (LogTurn from e i a t) epoch proxy bs = bs
batches_after (SeqTurn from e a t) epoch proxy bs = bs
batches_after (Submitted e p step batch asks) epoch proxy bs = if (e == epoch) && (p == proxy) then batch ∷ bs else bs
batches_after (ProxyHeard e p from t outcome asks) epoch proxy bs = bs
batches_after (RecHeard b from t asks) epoch proxy bs = bs
batches_after (StorageHeard tag from t taken fault) epoch proxy bs = bs
batches_after (Gone who) epoch proxy bs = bs
batches_after (Crashed who) epoch proxy bs = bs

-- the batches that a proxy took, the newest first
abbrev pub batches : List Turn → ℕ → ℕ → List (List Mutation)
batches [] epoch proxy = []
batches (t ∷ h) epoch proxy = batches_after t epoch proxy (batches h epoch proxy)

-- the batch of a proxy's request, which counts from 1
abbrev pub batch_at : List Turn → ℕ → ℕ → ℕ → Option (List Mutation)
batch_at h epoch proxy request = slice_get (reverse (batches h epoch proxy)) (request - 1)

-- a proxy of the epoch answered that this version is committed
pub record IsAcknowledged (h : List Turn) (e version : ℕ) : Type 0 where
  pub proxy : ℕ
  pub from : NodeId
  pub tell : Tell
  pub asks : List Sending
  pub turn : Contains h (ProxyHeard e proxy from tell (Committed version) asks)
