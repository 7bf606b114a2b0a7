-- What storage servers hold of what is committed, and that nothing acknowledged is undone.
use Rattle.std.specs.Prelude.{◌≡◌, ◌<◌, ◌≤◌, ◌⊎◌, ℕ, List, [], ◌∷◌, ◌++◌, Option, None, Some, Contains}
use Rattle.std.specs.List.{filter_map}
use Rattle.std.specs.Option.{option_map}
use Rattle.std.specs.FinMap.{empty}
use Rattle.fr_base.specs.Map.{Map}
use Rattle.fr_base.specs.declared.place.NodeId.{NodeId}
use Rattle.fr_base.specs.declared.place.NodeId.TheVariants as node
use Rattle.fr_mutation.specs.declared.mutation.Mutation.{Mutation}
use Rattle.fr_mutation.specs.Shard as shard
use Rattle.fr_tags.specs.Shards.{shard_at}
use Rattle.fr_undo.specs.Canonical.{Commit, contents_after, rows_after}
use Rattle.fr_state.specs.Generations.{CoordinatedState}
use Rattle.fr_state.specs.LookUp.{cut_of}
use Rattle.fr_state.specs.Spelling.{spelling}
use Rattle.fr_log.specs.declared.ask.LogTell.TheVariants.{Marked}
use Rattle.fr_ask.specs.declared.tell.Tell.{Tell}
use Rattle.fr_ask.specs.declared.tell.Tell.TheVariants as tell
use Rattle.fr_proxy.specs.Proxy.{Open}
use Rattle.fr_proxy.specs.declared.outcome.Outcome.TheVariants.{Committed}
use Rattle.fr_storage.specs.Storage.{StorageState, own_epoch}
use Rattle.fr_run.specs.Config.{Config}
use Rattle.fr_run.specs.Turn.{Turn, Sending, ProxyHeard, StorageHeard}
use Rattle.fr_run.specs.Nodes.{logs_at, proxy_at, storage_at}
use Rattle.fr_run.specs.Run.{IsRun}
use Rattle.fr_run.specs.Batches.{IsAcknowledged}
use Rattle.fr_run.specs.States.{state_of, IsChosenEpoch, IsLatest}
use Rattle.fr_run.specs.StateLaws.{IsConfig}
use Rattle.fr_run_headline.specs.Bounds.{HasReached}
use Rattle.fr_run_headline.specs.Issued.{Entry, issued, part, least_durable, committed}
use Rattle.fr_run_headline.specs.IssuedLaws.{VersionsRise, through}

-- ---- maps

-- the batch of an entry as a commit; a mark has none
abbrev pub commit_in : Entry → Option Commit
commit_in x = option_map (λ batch. (x.version, batch)) x.batch

-- the map that entries make of the empty one: their batches, from first to last
abbrev pub map_after : List Entry → Map
map_after xs = contents_after empty (filter_map commit_in xs)

-- what a tag's shard has of a map
abbrev pub shard_of : Config → ℕ → Map → Map
shard_of c tag m = shard.part m (shard_at c.begins tag)

-- ---- every storage server follows

-- a storage server against its own epoch, which is chosen. It has its shard of the map that this epoch issued through
-- the version applied, and an undo row for each change above its floor; and it spells the state that it keeps
pub record IsFollowing (c : Config) (h : List Turn) (tag : ℕ) (s : StorageState) : Type 0 where
  pub chosen : IsChosenEpoch c h (own_epoch s.state)
  pub state : s.state ≡ state_of c h (own_epoch s.state)
  pub contents : s.store.contents ≡ shard_of c tag (map_after (through s.store.applied (issued c h (own_epoch s.state))))
  pub undo : s.store.undo ≡ rows_after s.store.floor empty (part c h (own_epoch s.state) tag 0 s.store.applied)
  pub bytes : s.store.bytes ≡ spelling s.state
  pub floor : s.store.floor ≤ s.store.applied

abbrev pub EveryStorageFollows : Type 0
EveryStorageFollows = (c : Config) (h : List Turn) → IsConfig c → IsRun c h → (tag : ℕ) → IsFollowing c h tag (storage_at c h tag)

-- ---- storage servers that have rolled back

-- a storage server has just rolled back: the last turn is its hear, whole and not refused, of the state of a later epoch than its own
pub record HasRolledBack (c : Config) (h : List Turn) (tag : ℕ) : Type 0 where
  pub before : List Turn
  pub epoch : ℕ
  pub log : ℕ
  pub state : CoordinatedState
  pub now : StorageHeard tag (node.Log epoch log) (tell.Log (Marked state)) None None ∷ before ≡ h
  pub later : own_epoch (storage_at c before tag).state < own_epoch state

-- the version applied of a storage server
abbrev pub applied_at : Config → List Turn → ℕ → ℕ
applied_at c h tag = (storage_at c h tag).store.applied

-- a storage server keeps a state, and has exactly its shard of the map given by the committed batches through its
-- applied version. That is at most the recovery version (the cut, in that state, of the epoch that it left), and at
-- most the version through which the committed list goes
pub record HoldsCommitted (c : Config) (h : List Turn) (tag latest left : ℕ) (state : CoordinatedState) : Type 0 where
  pub kept : (storage_at c h tag).state ≡ state
  pub contents : (storage_at c h tag).store.contents ≡ shard_of c tag (map_after (through (applied_at c h tag) (committed c h latest)))
  pub recovery : ℕ
  pub is_cut : cut_of state.gens left ≡ Some recovery
  pub within : applied_at c h tag ≤ recovery
  pub committed : applied_at c h tag ≤ least_durable c h latest

abbrev pub RolledBackIsExact : Config → List Turn → Type 0
RolledBackIsExact c h = (tag latest : ℕ) (r : HasRolledBack c h tag) → IsLatest c h latest → HoldsCommitted c h tag latest (own_epoch (storage_at c r.before tag).state) r.state

-- ---- acknowledged commits

abbrev pub batch_under_way : Option Open → Option (List Mutation)
batch_under_way None = None
batch_under_way (Some o) = Some o.batch

-- a turn acknowledges a batch at a version of an epoch: a proxy of the epoch, with this batch under way, answers that this version is committed
pub record Acknowledges (c : Config) (before : List Turn) (t : Turn) (e version : ℕ) (batch : List Mutation) : Type 0 where
  pub proxy : ℕ
  pub from : NodeId
  pub heard : Tell
  pub asks : List Sending
  pub is : t ≡ ProxyHeard e proxy from heard (Committed version) asks
  pub under_way : batch_under_way (proxy_at c before e proxy).under_way ≡ Some batch

-- a batch was acknowledged at a version of an epoch
abbrev pub IsAcknowledgedBatch : Config → List Turn → ℕ → ℕ → List Mutation → Type 0
IsAcknowledgedBatch c [] e version batch = ⊥
IsAcknowledgedBatch c (t ∷ h) e version batch = Acknowledges c h t e version batch ⊎ IsAcknowledgedBatch c h e version batch

-- each version that was acknowledged was so with a batch
abbrev pub AcknowledgedHasBatch : Type 0
AcknowledgedHasBatch = (c : Config) (h : List Turn) → IsRun c h → (e version : ℕ) → IsAcknowledged h e version → (batch : List Mutation) × IsAcknowledgedBatch c h e version batch

-- the entry of a batch that an epoch numbered
abbrev pub commit_at : ℕ → ℕ → List Mutation → Entry
commit_at e version batch = record { version = version; origin = e; batch = Some batch }

-- a storage server has applied an entry: what its own epoch issued has it, and the version applied is not below it
pub record HasApplied (c : Config) (h : List Turn) (tag : ℕ) (entry : Entry) : Type 0 where
  pub issued : Contains (issued c h (own_epoch (storage_at c h tag).state)) entry
  pub applied : entry.version ≤ applied_at c h tag

-- an entry is in the committed list of every moment from now on
abbrev pub Stands : Config → List Turn → Entry → Type 0
Stands c h entry = (more : List Turn) → IsRun c (more ++ h) → (latest : ℕ) → IsLatest c (more ++ h) latest → Contains (committed c (more ++ h) latest) entry

-- no storage server that has applied it, now or at a later moment, undoes it after that
abbrev pub IsNeverUndone : Config → List Turn → Entry → Type 0
IsNeverUndone c h entry = (more after : List Turn) (tag : ℕ) → IsRun c (after ++ (more ++ h)) → HasApplied c (more ++ h) tag entry → HasApplied c (after ++ (more ++ h)) tag entry

abbrev pub AcknowledgedIsNeverUndone : Config → List Turn → Type 0
AcknowledgedIsNeverUndone c h =
    (e version : ℕ) (batch : List Mutation) → IsAcknowledgedBatch c h e version batch → Stands c h (commit_at e version batch) × IsNeverUndone c h (commit_at e version batch)

-- ---- the committed list

-- at every moment there is a chosen epoch of the greatest ballot, by which the list is committed
abbrev pub LatestIsThere : Type 0
LatestIsThere = (c : Config) (h : List Turn) → IsRun c h → (latest : ℕ) × IsLatest c h latest

-- a committed list: that of the chosen epoch of the greatest ballot, which has logs; its versions rise strictly, through one that each of these logs has come to,
-- lost or not
pub record HasCommitted (c : Config) (h : List Turn) : Type 0 where
  pub latest : ℕ
  pub is_latest : IsLatest c h latest
  pub some : 1 ≤ logs_at c h latest
  pub reached : (log : ℕ) → log < logs_at c h latest → HasReached c h latest log (least_durable c h latest)
  pub rises : VersionsRise 0 (committed c h latest) (least_durable c h latest)

-- there is one at every moment
abbrev pub CommittedIsThere : Type 0
CommittedIsThere = (c : Config) (h : List Turn) → IsConfig c → IsRun c h → HasCommitted c h

-- a version that was acknowledged has a batch, with which it was, and the committed list has this batch at this version of its epoch
pub record HasBatch (c : Config) (h : List Turn) (e version : ℕ) : Type 0 where
  pub batch : List Mutation
  pub acknowledged : IsAcknowledgedBatch c h e version batch
  pub listed : (latest : ℕ) → IsLatest c h latest → Contains (committed c h latest) (commit_at e version batch)

-- so has each one
abbrev pub AcknowledgedIsCommitted : Type 0
AcknowledgedIsCommitted = (c : Config) (h : List Turn) → IsConfig c → IsRun c h → (e version : ℕ) → IsAcknowledged h e version → HasBatch c h e version

-- the committed list only grows
abbrev pub CommittedGrows : Type 0
CommittedGrows =
    (c : Config) (h more : List Turn) → IsConfig c → IsRun c (more ++ h) → (latest later : ℕ) → IsLatest c h latest → IsLatest c (more ++ h) later
    → (rest : List Entry) × (committed c h latest ++ rest ≡ committed c (more ++ h) later)
