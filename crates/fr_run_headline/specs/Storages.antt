-- What each storage server of a run is: it keeps the state of a chosen epoch, and follows that epoch.
use Rattle.std.specs.Prelude.{◌≡◌, ◌≢◌, ◌≤◌, ℕ, List, ◌∷◌, Option, Some, Contains}
use Rattle.fr_base.specs.declared.place.NodeId.{NodeId}
use Rattle.fr_state.specs.Generations.{LogGeneration}
use Rattle.fr_ask.specs.declared.tell.Tell.{Tell}
use Rattle.fr_storage.specs.declared.fault.StorageFault.{StorageFault}
use Rattle.fr_storage.specs.declared.fault.StorageFault.TheVariants.{Stranger, BelowFloor}
use Rattle.fr_storage.specs.Storage.{StorageState, own_epoch}
use Rattle.fr_storage.specs.Follows.{Follows}
use Rattle.fr_run.specs.Config.{Config}
use Rattle.fr_run.specs.Turn.{Turn, StorageHeard}
use Rattle.fr_run.specs.Nodes.{storage_at}
use Rattle.fr_run.specs.Run.{IsRun}
use Rattle.fr_run.specs.States.{state_of, line_of, IsChosenEpoch}
use Rattle.fr_run.specs.StateLaws.{IsConfig}
use Rattle.fr_run_headline.specs.Numbers.{top_at}
use Rattle.fr_run_headline.specs.Bounds.{IsBelow}
use Rattle.fr_run_headline.specs.Agreement.{pieces_at}

-- a floor that no recovery goes below: in some generation of the list it was known, so each log of that one has reached it, or it is below its first version
pub record IsSafeFloor (c : Config) (h : List Turn) (gens : List LogGeneration) (floor : ℕ) : Type 0 where
  pub generation : LogGeneration
  pub there : Contains gens generation
  pub below : IsBelow c h generation.epoch floor

-- a storage server of a run. The state that it keeps is that of a chosen epoch, its own. Its store spells that state,
-- and is the one that its tag's part of what that epoch issues makes of an empty store through the version applied. It
-- has applied nothing that the epoch did not number, and its floor is safe
pub record IsStorageOf (c : Config) (h : List Turn) (tag : ℕ) (s : StorageState) : Type 0 where
  pub tag_is : s.tag ≡ tag
  pub chosen : IsChosenEpoch c h (own_epoch s.state)
  pub state : s.state ≡ state_of c h (own_epoch s.state)
  pub follows : Follows (pieces_at c h tag) s
  pub numbered : s.store.applied ≤ top_at c h (own_epoch s.state)
  pub floor : IsSafeFloor c h (line_of c h (own_epoch s.state)) s.store.floor

-- at every moment each storage server is such a one, also one that ran ahead, that skipped epochs, or whose hear broke off
abbrev pub StoragesFollow : Type 0
StoragesFollow = (c : Config) (h : List Turn) → IsConfig c → IsRun c h → (tag : ℕ) → IsStorageOf c h tag (storage_at c h tag)

-- no hear of a storage server is refused as that of a stranger, nor below its floor
abbrev pub HearsAreTaken : Type 0
HearsAreTaken =
    (c : Config) (h : List Turn) (tag : ℕ) (from : NodeId) (tell : Tell) (taken : Option ℕ) (fault : Option StorageFault) → IsConfig c → IsRun c (StorageHeard tag from tell taken fault ∷ h)
    → (fault ≢ Some Stranger) × (fault ≢ Some BelowFloor)

-- nor was any at an earlier moment
abbrev pub EachHearIsTaken : Type 0
EachHearIsTaken =
    (c : Config) (h : List Turn) → IsConfig c → IsRun c h → (tag : ℕ) (from : NodeId) (tell : Tell) (taken : Option ℕ) (fault : Option StorageFault) → Contains h (StorageHeard tag from tell taken fault)
    → (fault ≢ Some Stranger) × (fault ≢ Some BelowFloor)
