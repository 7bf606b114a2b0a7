-- The state that each epoch writes, and which epochs are chosen.
use Rattle.std.specs.Prelude.{◌≡◌, ◌≤◌, ℕ, zero, suc, true, ◌==◌, List, [], ◌∷◌, ◌++◌, Option, None, Some, if◌then◌else◌}
use Rattle.std.specs.List.{list_any}
use Rattle.fr_register.specs.Poll.{Stamped}
use Rattle.fr_register.specs.Chosen.{IsChosen}
use Rattle.fr_state.specs.Generations.{LogGeneration, CoordinatedState}
use Rattle.fr_state.specs.Spelling.{spelling}
use Rattle.fr_epoch.specs.Recoverer.{RecState, Parent, Plan}
use Rattle.fr_run.specs.Config.{Config, first_epoch, first_generation, first_state, first_cell}
use Rattle.fr_run.specs.Turn.{Turn, cell_turns}
use Rattle.fr_run.specs.Nodes.{rec_at, plan_at}

-- the state that an epoch's ballot writes
abbrev pub state_in : Config → Option Plan → CoordinatedState
state_in c None = first_state c
state_in c (Some p) = p.state

abbrev pub state_of : Config → List Turn → ℕ → CoordinatedState
state_of c h e = if e == first_epoch then first_state c else state_in c (plan_at c h e)

-- the line of a recoverer: that of the epoch that it ends, and then its plan's generation
abbrev pub line_with : Config → (ℕ → List LogGeneration) → Option Parent → Option Plan → List LogGeneration
line_with c lines None plan = first_generation c ∷ []
line_with c lines (Some p) None = first_generation c ∷ []
line_with c lines (Some p) (Some q) = lines p.last.epoch ++ q.generation ∷ []

abbrev pub line_in : Config → (ℕ → List LogGeneration) → Option RecState → List LogGeneration
line_in c lines None = first_generation c ∷ []
line_in c lines (Some r) = line_with c lines r.parent r.plan

-- the line of an epoch, if no more than so many epochs lie behind it
abbrev pub line_from : Config → List Turn → ℕ → ℕ → List LogGeneration
line_from c h zero e = first_generation c ∷ []
line_from c h (suc n) e = if e == first_epoch then first_generation c ∷ [] else line_in c (line_from c h n) (rec_at c h e)

-- the line of an epoch: all its generations, from the first one of all to its own, of which its state may have dropped the first ones
abbrev pub line_of : Config → List Turn → ℕ → List LogGeneration
line_of c h e = line_from c h e e

-- an epoch is in the line of another
abbrev pub IsInLine : Config → List Turn → ℕ → ℕ → Type 0
IsInLine c h e x = list_any (λ g. g.epoch == x) (line_of c h e) ≡ true

-- the pair that an epoch's ballot writes
abbrev pub pair_of : Config → List Turn → ℕ → Stamped
pair_of c h e = record { ballot = e; value = spelling (state_of c h e) }

-- a majority of the cells took the state of an epoch, or it is the first
abbrev pub IsChosenEpoch : Config → List Turn → ℕ → Type 0
IsChosenEpoch c h e = IsChosen c.cells (first_cell c) (cell_turns h) (pair_of c h e)

-- the chosen epoch of the greatest ballot
pub record IsLatest (c : Config) (h : List Turn) (e : ℕ) : Type 0 where
  pub chosen : IsChosenEpoch c h e
  pub greatest : (d : ℕ) → IsChosenEpoch c h d → d ≤ e
