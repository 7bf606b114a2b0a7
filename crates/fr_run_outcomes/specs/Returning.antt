-- That service returns: after a recovery every storage server comes to have all that is committed.
use Rattle.std.specs.Prelude.{◌≡◌, ◌<◌, ◌≤◌, ◌⊎◌, ℕ, true, false, List, ◌∷◌, length, Option, None, Some, IfSome, All, Ok}
use Rattle.fr_base.specs.Shape.{ShapeContent, IsShape}
use Rattle.fr_register.specs.Chosen.{IsMajority}
use Rattle.fr_state.specs.Generations.{CoordinatedState}
use Rattle.fr_state.specs.Reading.{reading}
use Rattle.fr_epoch.specs.Recoverer.{RecState, Chosen}
use Rattle.fr_run.specs.Config.{Config}
use Rattle.fr_run.specs.Turn.{Turn}
use Rattle.fr_run.specs.Nodes.{cell_at, rec_at, is_open, logs_at, log_at}
use Rattle.fr_run.specs.Run.{MayBegin, IsRun}
use Rattle.fr_run.specs.States.{IsLatest}
use Rattle.fr_run.specs.StateLaws.{IsConfig}
use Rattle.fr_run_headline.specs.Retrievable.{AreFewLost}
use Rattle.fr_run_outcomes.specs.Going.{GoesOn}
use Rattle.fr_run_outcomes.specs.Locking.{IsFewLost}
use Rattle.fr_run_outcomes.specs.Pulling.{IsServed}
use Rattle.fr_run_outcomes.specs.Reading.{pair_at}
use Rattle.fr_run_outcomes.specs.Recovering.{HasRoom, FillsOn}

-- of each generation of the state that a cell has fewer than k logs are lost
abbrev pub HasEachLeft : Config → List Turn → ℕ → Type 0
HasEachLeft c h i = (s : CoordinatedState) → reading (cell_at c h i).value ≡ Ok s → All (IsFewLost h) s.gens

-- a run goes on by own turns of a ballot to a moment at which its epoch is the latest that is chosen, and open, and every
-- storage server keeps its state and has applied all that each log of it holds
pub record ServesOn (c : Config) (h : List Turn) (b cell : ℕ) : Type 0 where
  pub later : List Turn
  pub goes_on : GoesOn c b h later
  pub recoverer : RecState
  pub at : rec_at c later b ≡ Some recoverer
  pub found : recoverer.reads.greatest ≡ pair_at c h cell
  pub chosen : recoverer.phase ≡ Chosen
  pub latest : IsLatest c later b
  pub opened : is_open c later b ≡ true
  pub few : AreFewLost c later b
  pub each : (tag : ℕ) → tag < length c.begins → IsServed c later b tag

-- so does each one, under the conditions of NoDeadEnd, if the state has logs left in each generation
abbrev pub ServiceReturns : Type 0
ServiceReturns =
    (c : Config) (h : List Turn) → IsConfig c → IsRun c h → (b : ℕ) (shape : Option ShapeContent) → rec_at c h b ≡ None → MayBegin b → IfSome shape IsShape
    → (first : ℕ) (others : List ℕ) → IsMajority c.cells (first ∷ others) → All (λ i. (cell_at c h i).promised ≤ b) (first ∷ others)
    → All (λ i. (cell_at c h i).written ≤ (cell_at c h first).written) others → HasEachLeft c h first → HasRoom c h first → ServesOn c h b first

-- without room it returns too, or the recoverer finds that there is none
abbrev pub ServiceReturnsOrIsFull : Type 0
ServiceReturnsOrIsFull =
    (c : Config) (h : List Turn) → IsConfig c → IsRun c h → (b : ℕ) (shape : Option ShapeContent) → rec_at c h b ≡ None → MayBegin b → IfSome shape IsShape
    → (first : ℕ) (others : List ℕ) → IsMajority c.cells (first ∷ others) → All (λ i. (cell_at c h i).promised ≤ b) (first ∷ others)
    → All (λ i. (cell_at c h i).written ≤ (cell_at c h first).written) others → HasEachLeft c h first → ServesOn c h b first ⊎ FillsOn c h b first

-- while no cell of some majority promised more than a ballot, no log of its epoch is locked
abbrev pub LowIsUnlocked : Type 0
LowIsUnlocked =
    (c : Config) (h : List Turn) → IsConfig c → IsRun c h → (b : ℕ) (r : RecState) → rec_at c h b ≡ Some r → (who : List ℕ) → IsMajority c.cells who
    → All (λ i. (cell_at c h i).promised ≤ b) who → (i : ℕ) → i < logs_at c h b → (log_at c h b i).stopped ≡ false
