-- If a log holds its epoch's mark, storage servers come to hear it.
use Rattle.std.specs.Prelude.{◌≡◌, ◌<◌, ◌⊎◌, ℕ, List, length, Some}
use Rattle.fr_base.specs.declared.place.NodeId.TheVariants as node
use Rattle.fr_state.specs.Generations.{CoordinatedState}
use Rattle.fr_log.specs.LogState.{mark_among}
use Rattle.fr_storage.specs.Storage.{own_epoch}
use Rattle.fr_run.specs.Config.{Config}
use Rattle.fr_run.specs.Turn.{Turn}
use Rattle.fr_run.specs.Nodes.{log_at, storage_at}
use Rattle.fr_run.specs.Run.{IsUp, IsRun}
use Rattle.fr_run.specs.States.{state_of}
use Rattle.fr_run.specs.StateLaws.{IsConfig}
use Rattle.fr_run_outcomes.specs.Going.{GoesOn, LeavesChosen, LeavesOthers}

-- a run goes on by turns of a storage server and of logs that it asks to a moment at which it keeps the state of an epoch, or one whose own epoch is greater
pub record HearsOn (c : Config) (h : List Turn) (e tag : ℕ) : Type 0 where
  pub later : List Turn
  pub goes_on : (b : ℕ) → GoesOn c b h later
  pub leaves : LeavesChosen c h later
  pub others : LeavesOthers c h later tag
  pub keeps : ((storage_at c later tag).state ≡ state_of c later e) ⊎ (own_epoch (state_of c later e) < own_epoch (storage_at c later tag).state)

-- so does each one in which a log of the epoch is up and has its mark first
abbrev pub MarkIsHeard : Type 0
MarkIsHeard =
    (c : Config) (h : List Turn) → IsConfig c → IsRun c h → (e i : ℕ) (x : CoordinatedState) → IsUp c h (node.Log e i) → mark_among (log_at c h e i).pushes ≡ Some x
    → (tag : ℕ) → tag < length c.begins → HearsOn c h e tag
