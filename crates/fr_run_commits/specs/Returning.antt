-- After a recovery the next batch comes to be committed and stored.
use Rattle.std.specs.Prelude.{◌≡◌, ◌<◌, ◌≤◌, ◌^◌, ℕ, ◌+◌, List, ◌∷◌, length, Option, None, Some, IfSome, All, Ok}
use Rattle.fr_base.specs.Shape.{ShapeContent, IsShape}
use Rattle.fr_mutation.specs.declared.mutation.Mutation.{Mutation}
use Rattle.fr_register.specs.Chosen.{IsMajority}
use Rattle.fr_state.specs.Generations.{LogGeneration, CoordinatedState, last_of}
use Rattle.fr_state.specs.Reading.{reading}
use Rattle.fr_log.specs.LogState.{durable_of}
use Rattle.fr_run.specs.Config.{Config}
use Rattle.fr_run.specs.Turn.{Turn}
use Rattle.fr_run.specs.Nodes.{cell_at, rec_at, log_at}
use Rattle.fr_run.specs.Run.{MayBegin, IsRun}
use Rattle.fr_run.specs.StateLaws.{IsConfig}
use Rattle.fr_run_outcomes.specs.Going.{GoesOn}
use Rattle.fr_run_outcomes.specs.Returning.{HasEachLeft}
use Rattle.fr_run_commits.specs.Committing.{IsServing, CommitsOn}

-- after the state that a cell has there is room, also for a version that this step gives
pub record HasRoomAfter (c : Config) (h : List Turn) (step : ℕ) (s : CoordinatedState) (g : LogGeneration) : Type 0 where
  pub gens : length s.gens < 64
  pub versions : (i : ℕ) → i < g.m → durable_of (log_at c h g.epoch i) + 1 + step < 2 ^ 62

abbrev pub HasRoomFor : Config → List Turn → ℕ → ℕ → Type 0
HasRoomFor c h i step = (s : CoordinatedState) (g : LogGeneration) → reading (cell_at c h i).value ≡ Ok s → last_of s.gens ≡ Some g → HasRoomAfter c h step s g

-- a run goes on by own turns of a ballot to a moment at which its epoch serves, and then to a commit of a batch
pub record ReturnsOn (c : Config) (h : List Turn) (b p step : ℕ) (batch : List Mutation) : Type 0 where
  pub serves : List Turn
  pub goes_on : GoesOn c b h serves
  pub serving : IsServing c serves b
  pub commits : CommitsOn c serves b p step batch

-- so does each one, under the conditions of ServiceReturns and with that room
abbrev pub ServiceReturnsToCommits : Type 0
ServiceReturnsToCommits =
    (c : Config) (h : List Turn) → IsConfig c → IsRun c h → (b : ℕ) (shape : Option ShapeContent) → rec_at c h b ≡ None → MayBegin b → IfSome shape IsShape
    → (first : ℕ) (others : List ℕ) → IsMajority c.cells (first ∷ others) → All (λ i. (cell_at c h i).promised ≤ b) (first ∷ others)
    → All (λ i. (cell_at c h i).written ≤ (cell_at c h first).written) others → HasEachLeft c h first
    → (p step : ℕ) (batch : List Mutation) → p < c.proxies → 1 ≤ step → step ≤ 1000000 → HasRoomFor c h first step → ReturnsOn c h b p step batch
