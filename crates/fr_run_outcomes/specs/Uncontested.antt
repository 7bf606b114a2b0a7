-- A ballot above which nobody asks a cell is lost for want of room alone.
use Rattle.std.specs.Prelude.{◌≡◌, ◌<◌, ◌≤◌, ℕ, List, ◌∷◌, ◌++◌, Option, Some, All}
use Rattle.fr_base.specs.Shape.{ShapeContent}
use Rattle.fr_register.specs.Cell.{ballot_of}
use Rattle.fr_epoch.specs.Recoverer.{RecState, Lost}
use Rattle.fr_epoch.specs.declared.why.LostWhy.{LostWhy}
use Rattle.fr_run.specs.Config.{Config}
use Rattle.fr_run.specs.Turn.{Turn, Sending, Begun, CellTurn, LogTurn, SeqTurn, Submitted, ProxyHeard, RecHeard, StorageHeard, Gone, Crashed}
use Rattle.fr_run.specs.Nodes.{cell_at, rec_at}
use Rattle.fr_run.specs.Run.{IsRun}
use Rattle.fr_run.specs.StateLaws.{IsConfig}
use Rattle.fr_run_outcomes.specs.Locking.{HasNoRoom}

-- a turn in which no cell is asked for a greater ballot than this one
abbrev pub AsksNoGreater : ℕ → Turn → Type 0
AsksNoGreater b (Begun x shape asks) = Unit {0}
AsksNoGreater b (CellTurn from i a t) = ballot_of a ≤ b
AsksNoGreater b (LogTurn from e i a t) = Unit {0}
AsksNoGreater b (SeqTurn from e a t) = Unit {0}
AsksNoGreater b (Submitted e p step batch asks) = Unit {0}
AsksNoGreater b (ProxyHeard e p from t outcome asks) = Unit {0}
AsksNoGreater b (RecHeard x from t asks) = Unit {0}
AsksNoGreater b (StorageHeard tag from t taken fault) = Unit {0}
AsksNoGreater b (Gone who) = Unit {0}
AsksNoGreater b (Crashed who) = Unit {0}

-- if no cell promised more than a ballot when that began, and none was asked for a greater one since, its recoverer is lost for want of
-- room alone, whatever else is lost, late or repeated
abbrev pub UncontestedHasNoRoom : Type 0
UncontestedHasNoRoom =
    (c : Config) (h more : List Turn) (b : ℕ) (shape : Option ShapeContent) (asks : List Sending) → IsConfig c → IsRun c (more ++ Begun b shape asks ∷ h) → ((i : ℕ) → i < c.cells → (cell_at c h i).promised ≤ b)
    → All (AsksNoGreater b) more → (r : RecState) (why : LostWhy) → rec_at c (more ++ Begun b shape asks ∷ h) b ≡ Some r → r.phase ≡ Lost why → HasNoRoom r
