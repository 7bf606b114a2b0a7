-- Snapshots: the undo rows of a storage server give what is committed at each version from its floor on.
use Rattle.std.specs.Prelude.{◌≡◌, ◌≤◌, ℕ, List, ◌++◌, IfSome}
use Rattle.std.specs.FinMap.{get}
use Rattle.fr_state.specs.LookUp.{cut_of}
use Rattle.fr_undo.specs.Undo.{value_undone, contents_undone}
use Rattle.fr_storage.specs.Storage.{own_epoch}
use Rattle.fr_run.specs.Config.{Config}
use Rattle.fr_run.specs.Turn.{Turn}
use Rattle.fr_run.specs.Nodes.{storage_at}
use Rattle.fr_run.specs.Run.{IsRun}
use Rattle.fr_run.specs.States.{line_of, IsLatest}
use Rattle.fr_run.specs.StateLaws.{IsConfig}
use Rattle.fr_run_headline.specs.Issued.{least_durable, committed}
use Rattle.fr_run_headline.specs.IssuedLaws.{through}
use Rattle.fr_run_headline.specs.Committed.{map_after, shard_of}

-- a version of a storage server that is settled: it is from its floor through the version applied, and committed. Nor
-- is it above the cut of the server's own epoch in the line of the chosen epoch of the greatest ballot, if that is
-- another one
pub record IsSettledAt (c : Config) (h : List Turn) (latest tag version : ℕ) : Type 0 where
  pub floor : (storage_at c h tag).store.floor ≤ version
  pub applied : version ≤ (storage_at c h tag).store.applied
  pub committed : version ≤ least_durable c h latest
  pub uncut : IfSome (cut_of (line_of c h latest) (own_epoch (storage_at c h tag).state)) (λ cut. version ≤ cut)

-- what a storage server has at a version, once all that is above is undone, is its shard of the committed map at that version: whole, and key by key
pub record IsSnapshot (c : Config) (h : List Turn) (latest tag version : ℕ) : Type 0 where
  pub contents : contents_undone (storage_at c h tag).store version ≡ shard_of c tag (map_after (through version (committed c h latest)))
  pub values : (key : List ℕ) → value_undone (storage_at c h tag).store version key ≡ get (shard_of c tag (map_after (through version (committed c h latest)))) key

abbrev pub SettledIsSnapshot : Type 0
SettledIsSnapshot =
    (c : Config) (h : List Turn) → IsConfig c → IsRun c h → (latest : ℕ) → IsLatest c h latest → (tag version : ℕ) → IsSettledAt c h latest tag version → IsSnapshot c h latest tag version

-- the floor is always such a version
abbrev pub FloorIsSettled : Type 0
FloorIsSettled =
    (c : Config) (h : List Turn) → IsConfig c → IsRun c h → (latest : ℕ) → IsLatest c h latest → (tag : ℕ) → IsSettledAt c h latest tag (storage_at c h tag).store.floor

-- a version that is settled stays so until the floor passes it, whatever happens: recoveries, rollbacks and losses of logs too
abbrev pub SettledStays : Type 0
SettledStays =
    (c : Config) (h more : List Turn) → IsConfig c → IsRun c (more ++ h) → (latest later : ℕ) → IsLatest c h latest → IsLatest c (more ++ h) later → (tag version : ℕ)
    → IsSettledAt c h latest tag version → (storage_at c (more ++ h) tag).store.floor ≤ version → IsSettledAt c (more ++ h) later tag version

-- and what the server has at it is the same
abbrev pub SnapshotStays : Type 0
SnapshotStays =
    (c : Config) (h more : List Turn) → IsConfig c → IsRun c (more ++ h) → (tag version latest : ℕ) → IsLatest c h latest
    → IsSettledAt c h latest tag version → (storage_at c (more ++ h) tag).store.floor ≤ version
    → contents_undone (storage_at c (more ++ h) tag).store version ≡ contents_undone (storage_at c h tag).store version
