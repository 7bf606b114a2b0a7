-- The order of versions: what is known, acknowledged or a storage server's floor is never cut off, and replies never disagree.
use Rattle.std.specs.Prelude.{◌≡◌, ◌≢◌, ◌<◌, ◌≤◌, ℕ, List, Some, IfSome, Contains}
use Rattle.fr_state.specs.Generations.{LogGeneration}
use Rattle.fr_state.specs.LookUp.{cut_of}
use Rattle.fr_log.specs.Push.{PushContent}
use Rattle.fr_log.specs.LogState.{known_of}
use Rattle.fr_epoch.specs.Recoverer.{RecState, Lost}
use Rattle.fr_epoch.specs.declared.why.LostWhy.TheVariants.{Inconsistent}
use Rattle.fr_storage.specs.Storage.{own_epoch}
use Rattle.fr_run.specs.Config.{Config}
use Rattle.fr_run.specs.Turn.{Turn}
use Rattle.fr_run.specs.Nodes.{rec_at, generation_at, logs_at, log_at, storage_at}
use Rattle.fr_run.specs.Run.{IsRun}
use Rattle.fr_run.specs.Batches.{IsAcknowledged}
use Rattle.fr_run.specs.States.{state_of, line_of, IsChosenEpoch}
use Rattle.fr_run.specs.StateLaws.{IsConfig}
use Rattle.fr_run_headline.specs.BehindLaws.{IsTakenOver}

-- a version of an epoch is not above the cut of the epoch in the line of any epoch that is planned: no recovery that goes on from the epoch takes over less
abbrev pub IsNeverCut : Config → List Turn → ℕ → ℕ → Type 0
IsNeverCut c h e version = (x : ℕ) (g : LogGeneration) → generation_at c h x ≡ Some g → IfSome (cut_of (line_of c h x) e) (λ cut. version ≤ cut)

-- so is what a log of the epoch knows
abbrev pub KnownIsNeverCut : Type 0
KnownIsNeverCut = (c : Config) (h : List Turn) → IsConfig c → IsRun c h → (e i : ℕ) → i < logs_at c h e → IsNeverCut c h e (known_of (log_at c h e i))

-- what was acknowledged in it
abbrev pub AcknowledgedIsNeverCut : Type 0
AcknowledgedIsNeverCut = (c : Config) (h : List Turn) → IsConfig c → IsRun c h → (e version : ℕ) → IsAcknowledged h e version → IsNeverCut c h e version

-- and the floor of a storage server of the epoch
abbrev pub FloorIsNeverCut : Type 0
FloorIsNeverCut = (c : Config) (h : List Turn) → IsConfig c → IsRun c h → (tag : ℕ) → IsNeverCut c h (own_epoch (storage_at c h tag).state) (storage_at c h tag).store.floor

-- the floor is taken over by each later epoch and recoverer
abbrev pub FloorIsTakenOver : Type 0
FloorIsTakenOver = (c : Config) (h : List Turn) → IsConfig c → IsRun c h → (tag : ℕ) → IsTakenOver c h (own_epoch (storage_at c h tag).state) (storage_at c h tag).store.floor

-- no recoverer finds that a log knows a version to be committed that another one does not hold
abbrev pub NeverInconsistent : Type 0
NeverInconsistent = (c : Config) (h : List Turn) → IsRun c h → (b : ℕ) (r : RecState) → rec_at c h b ≡ Some r → r.phase ≢ Lost Inconsistent

-- a log holds pushes, its mark among them, only of an epoch that is chosen, and its mark is the state of that
abbrev pub HeldIsChosen : Type 0
HeldIsChosen =
    (c : Config) (h : List Turn) → IsConfig c → IsRun c h → (e i : ℕ) (q : PushContent) → i < logs_at c h e → Contains (log_at c h e i).pushes q
    → IsChosenEpoch c h e × IfSome q.mark (λ x. x ≡ state_of c h e)
