-- That a recovery has no dead end.
use Rattle.std.specs.Prelude.{◌≡◌, ◌≤◌, ◌⊎◌, ℕ, List, ◌∷◌, Option, None, Some, IfSome, All, Ok}
use Rattle.fr_base.specs.Shape.{ShapeContent, IsShape}
use Rattle.fr_register.specs.Chosen.{IsMajority}
use Rattle.fr_state.specs.Generations.{LogGeneration, CoordinatedState, last_of}
use Rattle.fr_state.specs.Reading.{reading}
use Rattle.fr_epoch.specs.Recoverer.{RecState, Chosen}
use Rattle.fr_run.specs.Config.{Config}
use Rattle.fr_run.specs.Turn.{Turn}
use Rattle.fr_run.specs.Nodes.{cell_at, rec_at}
use Rattle.fr_run.specs.Run.{MayBegin, IsRun}
use Rattle.fr_run.specs.StateLaws.{IsConfig}
use Rattle.fr_run_outcomes.specs.Going.{GoesOn}
use Rattle.fr_run_outcomes.specs.Locking.{IsFewLost, HasNoRoom, HasRoomIn}
use Rattle.fr_run_outcomes.specs.Reading.{pair_at}

-- of the last generation of the state that a cell has fewer than k logs are lost
abbrev pub HasLogsLeft : Config → List Turn → ℕ → Type 0
HasLogsLeft c h i = (s : CoordinatedState) (g : LogGeneration) → reading (cell_at c h i).value ≡ Ok s → last_of s.gens ≡ Some g → IsFewLost h g

-- after the state that a cell has there is room
abbrev pub HasRoom : Config → List Turn → ℕ → Type 0
HasRoom c h i = (s : CoordinatedState) (g : LogGeneration) → reading (cell_at c h i).value ≡ Ok s → last_of s.gens ≡ Some g → HasRoomIn c h s g

-- a run goes on by own turns of a ballot to a moment at which its state is chosen, and its recoverer knows it. What it read
-- is the pair of one cell
pub record RecoversOn (c : Config) (h : List Turn) (b cell : ℕ) : Type 0 where
  pub later : List Turn
  pub goes_on : GoesOn c b h later
  pub recoverer : RecState
  pub at : rec_at c later b ≡ Some recoverer
  pub found : recoverer.reads.greatest ≡ pair_at c h cell
  pub chosen : recoverer.phase ≡ Chosen

-- so does each one, under the conditions of ReadingEnds, if the first cell's state has logs left, and after it there is room
abbrev pub NoDeadEnd : Type 0
NoDeadEnd =
    (c : Config) (h : List Turn) → IsConfig c → IsRun c h → (b : ℕ) (shape : Option ShapeContent) → rec_at c h b ≡ None → MayBegin b → IfSome shape IsShape
    → (first : ℕ) (others : List ℕ) → IsMajority c.cells (first ∷ others) → All (λ i. (cell_at c h i).promised ≤ b) (first ∷ others)
    → All (λ i. (cell_at c h i).written ≤ (cell_at c h first).written) others → HasLogsLeft c h first → HasRoom c h first → RecoversOn c h b first

-- a run goes on by own turns of a ballot to a moment at which its recoverer has found that there is no room. There was
-- none at the start
pub record FillsOn (c : Config) (h : List Turn) (b cell : ℕ) : Type 0 where
  pub later : List Turn
  pub goes_on : GoesOn c b h later
  pub recoverer : RecState
  pub at : rec_at c later b ≡ Some recoverer
  pub found : recoverer.reads.greatest ≡ pair_at c h cell
  pub room : HasNoRoom recoverer
  pub full : HasRoom c h cell → ⊥

-- without room each one goes on to such a moment, or to a choice
abbrev pub RecoveryEnds : Type 0
RecoveryEnds =
    (c : Config) (h : List Turn) → IsConfig c → IsRun c h → (b : ℕ) (shape : Option ShapeContent) → rec_at c h b ≡ None → MayBegin b → IfSome shape IsShape
    → (first : ℕ) (others : List ℕ) → IsMajority c.cells (first ∷ others) → All (λ i. (cell_at c h i).promised ≤ b) (first ∷ others)
    → All (λ i. (cell_at c h i).written ≤ (cell_at c h first).written) others → HasLogsLeft c h first → RecoversOn c h b first ⊎ FillsOn c h b first
