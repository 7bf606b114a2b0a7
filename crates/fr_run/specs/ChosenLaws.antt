-- Which epochs are chosen, and that they stay so, as one chain of states.
use Rattle.std.specs.Prelude.{◌≡◌, ◌<◌, ◌≤◌, ◌⊎◌, ℕ, true, List, [], ◌∷◌, ◌++◌, Some}
use Rattle.fr_state.specs.Generations.{LogGeneration, IsCoordinatedState}
use Rattle.fr_run.specs.Config.{Config, first_epoch}
use Rattle.fr_run.specs.Turn.{Turn}
use Rattle.fr_run.specs.Nodes.{generation_at, is_open}
use Rattle.fr_run.specs.Run.{IsTurn, IsRun}
use Rattle.fr_run.specs.States.{state_of, line_of, pair_of, IsChosenEpoch}
use Rattle.fr_run.specs.CellLaws.{IsWriter}
use Rattle.fr_run.specs.StateLaws.{IsConfig, IsFrontOf}

-- ---- which are chosen

-- an epoch that is open is chosen: a majority of the cells took its state, or it is the first
abbrev pub OpenIsChosen : Type 0
OpenIsChosen = (c : Config) (h : List Turn) → IsRun c h → (e : ℕ) → is_open c h e ≡ true → IsChosenEpoch c h e

-- the first epoch is chosen, and no chosen one is below it
abbrev pub FirstIsChosen : Type 0
FirstIsChosen = (c : Config) (h : List Turn) → IsChosenEpoch c h first_epoch

abbrev pub FirstIsLeast : Type 0
FirstIsLeast = (c : Config) (h : List Turn) → IsRun c h → (e : ℕ) → IsChosenEpoch c h e → first_epoch ≤ e

-- each other one was written by its ballot, whose logs were seeded before
abbrev pub ChosenIsWritten : Type 0
ChosenIsWritten = (c : Config) (h : List Turn) → IsRun c h → (e : ℕ) → IsChosenEpoch c h e → (e ≡ first_epoch) ⊎ IsWriter c h (pair_of c h e)

-- so a chosen epoch has a generation
abbrev pub ChosenIsPlanned : Type 0
ChosenIsPlanned = (c : Config) (h : List Turn) → IsRun c h → (e : ℕ) → IsChosenEpoch c h e → (g : LogGeneration) × (generation_at c h e ≡ Some g)

-- the state of each epoch is within its limits, its generations in order
abbrev pub StatesAreWithin : Type 0
StatesAreWithin = (c : Config) (h : List Turn) → IsConfig c → IsRun c h → (e : ℕ) → IsCoordinatedState (state_of c h e)

-- ---- they stay so

-- the generation and the state of an epoch stay from the moment that it has a generation
abbrev pub StateLasts : Type 0
StateLasts =
    (c : Config) (h : List Turn) (t : Turn) → IsRun c h → IsTurn c h t → (e : ℕ) (g : LogGeneration) → generation_at c h e ≡ Some g
    → (generation_at c (t ∷ h) e ≡ Some g) × (state_of c (t ∷ h) e ≡ state_of c h e)

-- what is chosen stays chosen, and its state the same
abbrev pub ChosenLasts : Type 0
ChosenLasts =
    (c : Config) (h : List Turn) (t : Turn) → IsRun c h → IsTurn c h t → (e : ℕ) → IsChosenEpoch c h e → IsChosenEpoch c (t ∷ h) e × (state_of c (t ∷ h) e ≡ state_of c h e)

-- ---- one chain

-- the line of an epoch is that of a lower one with more generations, of which the epoch's own is the last
pub record IsBefore (c : Config) (h : List Turn) (a b : ℕ) : Type 0 where
  pub between : List LogGeneration
  pub own : LogGeneration
  pub of : generation_at c h b ≡ Some own
  pub is : line_of c h a ++ (between ++ own ∷ []) ≡ line_of c h b

-- so is that of a chosen epoch and of each lower one that is chosen
abbrev pub ChosenIsBefore : Type 0
ChosenIsBefore = (c : Config) (h : List Turn) → IsConfig c → IsRun c h → (a b : ℕ) → IsChosenEpoch c h a → IsChosenEpoch c h b → a < b → IsBefore c h a b

-- of two chosen epochs the lower one's line is the front of the other's
abbrev pub ChosenAreChain : Type 0
ChosenAreChain =
    (c : Config) (h : List Turn) → IsConfig c → IsRun c h → (a b : ℕ) → IsChosenEpoch c h a → IsChosenEpoch c h b → a ≤ b
    → IsFrontOf (line_of c h a) (line_of c h b)
