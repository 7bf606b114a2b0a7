-- The logs that serve: each lets go what is popped, and tells the same as the log of the laws, which lets nothing go.
use Rattle.std.specs.Prelude.{◌≡◌, ◌<◌, ◌==◌, ◌&&◌, ℕ, List, [], ◌∷◌, if◌then◌else◌}
use Rattle.fr_log.specs.LogState.{LogState, swept}
use Rattle.fr_log.specs.Step.{answer_of, after_ask}
use Rattle.fr_log.specs.declared.ask.LogAsk.{LogAsk}
use Rattle.fr_run.specs.Config.{Config}
use Rattle.fr_run.specs.Turn.{Turn, Begun, CellTurn, LogTurn, SeqTurn, Submitted, ProxyHeard, RecHeard, StorageHeard, Gone, Crashed}
use Rattle.fr_run.specs.Nodes.{new_log, logs_at, log_at}
use Rattle.fr_run.specs.Run.{IsRun}
use Rattle.fr_run.specs.StateLaws.{IsConfig}

-- what a turn makes of a log that lets go what a pop covers
abbrev pub serving_after : Turn → ℕ → ℕ → LogState → LogState
serving_after (Begun b shape asks) epoch index l = l
serving_after (CellTurn from i a t) epoch index l = l
serving_after (LogTurn from e i a t) epoch index l = if (e == epoch) && (i == index) then after_ask l a else l
serving_after (SeqTurn from e a t) epoch index l = l
serving_after (Submitted e p step batch asks) epoch index l = l
serving_after (ProxyHeard e p from t outcome asks) epoch index l = l
serving_after (RecHeard b from t asks) epoch index l = l
serving_after (StorageHeard tag from t taken fault) epoch index l = l
serving_after (Gone who) epoch index l = l
serving_after (Crashed who) epoch index l = l

-- a log that began in a state, after turns
abbrev pub serving_from : LogState → List Turn → ℕ → ℕ → LogState
serving_from l [] epoch index = l
serving_from l (t ∷ h) epoch index = serving_after t epoch index (serving_from l h epoch index)

-- the log of an epoch that serves, after the asks of a run
abbrev pub serving_at : Config → List Turn → ℕ → ℕ → LogState
serving_at c h epoch index = serving_from (new_log c h epoch index) h epoch index

-- it is the log of the laws without what that may let go
abbrev pub ServingIsSwept : Type 0
ServingIsSwept = (c : Config) (h : List Turn) → IsConfig c → IsRun c h → (e i : ℕ) → i < logs_at c h e → serving_at c h e i ≡ swept (log_at c h e i)

-- so it tells the same, whatever it is asked
abbrev pub ServingTells : Type 0
ServingTells = (c : Config) (h : List Turn) → IsConfig c → IsRun c h → (e i : ℕ) → i < logs_at c h e → (a : LogAsk) → answer_of (serving_at c h e i) a ≡ answer_of (log_at c h e i) a
