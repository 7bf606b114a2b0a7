-- Real time: what is submitted after a moment is committed above all that is committed at it.
use Rattle.std.specs.Prelude.{◌<◌, ◌≤◌, ℕ, length, List, ◌++◌, Contains}
use Rattle.fr_storage.specs.Storage.{own_epoch}
use Rattle.fr_run.specs.Config.{Config}
use Rattle.fr_run.specs.Turn.{Turn}
use Rattle.fr_run.specs.Nodes.{storage_at}
use Rattle.fr_run.specs.Run.{IsRun}
use Rattle.fr_run.specs.Batches.{batches, IsAcknowledged}
use Rattle.fr_run.specs.States.{IsLatest}
use Rattle.fr_run.specs.StateLaws.{IsConfig}
use Rattle.fr_run_headline.specs.Issued.{Entry, least_durable, committed}
use Rattle.fr_run_outcomes.specs.Once.{IsEntryOf}
use Rattle.fr_run_outcomes.specs.Snapshots.{IsSettledAt}

-- a request was not submitted by a moment: its proxy took fewer batches by then. If there is such a request at a later moment, it was submitted between the two
abbrev pub IsToCome : List Turn → ℕ → ℕ → ℕ → Type 0
IsToCome h e proxy request = length (batches h e proxy) < request

-- a request that is submitted after a moment, and is in the committed list of a still later one, has there a version above that through which the list went at the moment
abbrev pub CommittedLater : Type 0
CommittedLater =
    (c : Config) (h more : List Turn) → IsConfig c → IsRun c (more ++ h) → (latest later : ℕ) → IsLatest c h latest → IsLatest c (more ++ h) later
    → (e proxy request : ℕ) → IsToCome h e proxy request → (x : Entry) → Contains (committed c (more ++ h) later) x → IsEntryOf (more ++ h) e proxy request x
    → least_durable c h latest < x.version

-- so a version that was acknowledged is below that of each committed request that was submitted after it, whatever the epochs of the two
abbrev pub AcknowledgedBefore : Type 0
AcknowledgedBefore =
    (c : Config) (h more : List Turn) → IsConfig c → IsRun c (more ++ h) → (a version : ℕ) → IsAcknowledged h a version → (later : ℕ) → IsLatest c (more ++ h) later
    → (e proxy request : ℕ) → IsToCome h e proxy request → (x : Entry) → Contains (committed c (more ++ h) later) x → IsEntryOf (more ++ h) e proxy request x
    → version < x.version

-- and a version at which a storage server is settled is below that of each committed request that is submitted later
abbrev pub SettledBefore : Type 0
SettledBefore =
    (c : Config) (h more : List Turn) → IsConfig c → IsRun c (more ++ h) → (latest tag version : ℕ) → IsLatest c h latest → IsSettledAt c h latest tag version → (later : ℕ) → IsLatest c (more ++ h) later
    → (e proxy request : ℕ) → IsToCome h e proxy request → (x : Entry) → Contains (committed c (more ++ h) later) x → IsEntryOf (more ++ h) e proxy request x
    → version < x.version

-- a version that was acknowledged in an epoch is settled at each storage server whose own epoch is that one or a later one, if it is from the server's floor through
-- the version applied
abbrev pub AcknowledgedIsSettled : Type 0
AcknowledgedIsSettled =
    (c : Config) (h : List Turn) → IsConfig c → IsRun c h → (latest : ℕ) → IsLatest c h latest → (e version : ℕ) → IsAcknowledged h e version
    → (tag : ℕ) → e ≤ own_epoch (storage_at c h tag).state → (storage_at c h tag).store.floor ≤ version → version ≤ (storage_at c h tag).store.applied → IsSettledAt c h latest tag version
