-- The logs of an epoch come to hold its mark, once its recoverer knows that it is chosen.
use Rattle.std.specs.Prelude.{◌≡◌, ℕ, false, List, Some}
use Rattle.fr_base.specs.declared.place.NodeId.TheVariants as node
use Rattle.fr_state.specs.Generations.{CoordinatedState}
use Rattle.fr_log.specs.LogState.{mark_among}
use Rattle.fr_epoch.specs.Recoverer.{RecState, Chosen}
use Rattle.fr_run.specs.Config.{Config}
use Rattle.fr_run.specs.Turn.{Turn}
use Rattle.fr_run.specs.Nodes.{rec_at, log_at}
use Rattle.fr_run.specs.Run.{IsUp, IsRun}
use Rattle.fr_run.specs.States.{state_of}
use Rattle.fr_run.specs.StateLaws.{IsConfig}
use Rattle.fr_run_outcomes.specs.Going.{GoesOn, LeavesChosen}

-- a run goes on by own turns of an epoch's ballot to a moment at which a log of the epoch is up and has its mark first, which is of this state
pub record MarksOn (c : Config) (h : List Turn) (e i : ℕ) (x : CoordinatedState) : Type 0 where
  pub later : List Turn
  pub goes_on : GoesOn c e h later
  pub leaves : LeavesChosen c h later
  pub up : IsUp c later (node.Log e i)
  pub marked : mark_among (log_at c later e i).pushes ≡ Some x

-- so does each one in which the state of a ballot is chosen and its recoverer knows it, for each log of its generation that is up and was not locked
abbrev pub MarkIsHeld : Type 0
MarkIsHeld =
    (c : Config) (h : List Turn) → IsConfig c → IsRun c h → (b : ℕ) (r : RecState) → rec_at c h b ≡ Some r → r.phase ≡ Chosen → (i : ℕ) → IsUp c h (node.Log b i)
    → (log_at c h b i).stopped ≡ false → MarksOn c h b i (state_of c h b)
