-- That storage servers come to have all that is committed.
use Rattle.std.specs.Prelude.{◌≡◌, ◌<◌, ◌≤◌, ℕ, false, List, length, Some}
use Rattle.fr_base.specs.declared.place.NodeId.TheVariants as node
use Rattle.fr_state.specs.Generations.{CoordinatedState}
use Rattle.fr_log.specs.LogState.{mark_among}
use Rattle.fr_epoch.specs.Recoverer.{RecState, Chosen}
use Rattle.fr_run.specs.Config.{Config}
use Rattle.fr_run.specs.Turn.{Turn}
use Rattle.fr_run.specs.Nodes.{rec_at, log_at, storage_at}
use Rattle.fr_run.specs.Run.{IsUp, IsRun}
use Rattle.fr_run.specs.States.{state_of, IsLatest}
use Rattle.fr_run.specs.StateLaws.{IsConfig}
use Rattle.fr_run_headline.specs.Issued.{least_durable}
use Rattle.fr_run_headline.specs.Retrievable.{AreFewLost}
use Rattle.fr_run_outcomes.specs.Going.{GoesOn, LeavesChosen, LeavesOthers}

-- a storage server keeps the state of an epoch, and has applied all that each log of the epoch holds
pub record IsServed (c : Config) (h : List Turn) (e tag : ℕ) : Type 0 where
  pub keeps : (storage_at c h tag).state ≡ state_of c h e
  pub applied : least_durable c h e ≤ (storage_at c h tag).store.applied

-- a run goes on by turns of a storage server and of logs that it asks to a moment at which it does
pub record PullsOn (c : Config) (h : List Turn) (e tag : ℕ) : Type 0 where
  pub later : List Turn
  pub goes_on : (b : ℕ) → GoesOn c b h later
  pub leaves : LeavesChosen c h later
  pub others : LeavesOthers c h later tag
  pub served : IsServed c later e tag

-- so does each one in which a storage server keeps the state of the latest epoch, if fewer than k logs of each
-- generation of it are lost
abbrev pub CommittedIsPulled : Type 0
CommittedIsPulled =
    (c : Config) (h : List Turn) → IsConfig c → IsRun c h → (latest : ℕ) → IsLatest c h latest → AreFewLost c h latest → (tag : ℕ) → tag < length c.begins
    → (storage_at c h tag).state ≡ state_of c h latest → PullsOn c h latest tag

-- a run goes on by turns of storage servers and of logs that they ask to a moment at which each server does
pub record AllServed (c : Config) (h : List Turn) (e : ℕ) : Type 0 where
  pub later : List Turn
  pub goes_on : (b : ℕ) → GoesOn c b h later
  pub leaves : LeavesChosen c h later
  pub each : (tag : ℕ) → tag < length c.begins → IsServed c later e tag

-- so does each one in which the epoch is the latest, if fewer than k logs of each generation of it are lost, and one log of its
-- own is up and has its mark first
abbrev pub MarkedIsServed : Type 0
MarkedIsServed =
    (c : Config) (h : List Turn) → IsConfig c → IsRun c h → (e i : ℕ) (x : CoordinatedState) → IsLatest c h e → AreFewLost c h e → IsUp c h (node.Log e i)
    → mark_among (log_at c h e i).pushes ≡ Some x → AllServed c h e

-- a run goes on by own turns of an epoch's ballot to such a moment
pub record AllPullOn (c : Config) (h : List Turn) (e : ℕ) : Type 0 where
  pub later : List Turn
  pub goes_on : GoesOn c e h later
  pub leaves : LeavesChosen c h later
  pub each : (tag : ℕ) → tag < length c.begins → IsServed c later e tag

-- so does each one in which the latest epoch is that of a recoverer which knows it to be chosen, if fewer than k logs of
-- each generation of it are lost, and one log of its own is up and was not locked
abbrev pub ChosenIsServed : Type 0
ChosenIsServed =
    (c : Config) (h : List Turn) → IsConfig c → IsRun c h → (b : ℕ) (r : RecState) → rec_at c h b ≡ Some r → r.phase ≡ Chosen → IsLatest c h b → AreFewLost c h b
    → (i : ℕ) → IsUp c h (node.Log b i) → (log_at c h b i).stopped ≡ false → AllPullOn c h b
