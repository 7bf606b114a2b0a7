-- What the cells of a run hold, and what their promises are worth.
use Rattle.std.specs.Prelude.{◌≡◌, ℕ, true, List, Some}
use Rattle.fr_base.specs.declared.place.NodeId.TheVariants as node
use Rattle.fr_register.specs.declared.ask.CellTell.TheVariants.{Promise}
use Rattle.fr_register.specs.Poll.{Stamped}
use Rattle.fr_register.specs.History as register
use Rattle.fr_register.specs.Chosen.{IsCellOf, IsKept}
use Rattle.fr_state.specs.Spelling.{spelling}
use Rattle.fr_ask.specs.declared.tell.Tell.TheVariants as tell
use Rattle.fr_epoch.specs.Recoverer.{RecState, Plan, is_written}
use Rattle.fr_run.specs.Config.{Config, first_cell}
use Rattle.fr_run.specs.Turn.{Turn, Told, cell_turns}
use Rattle.fr_run.specs.Nodes.{cell_at, rec_at}
use Rattle.fr_run.specs.Run.{IsRun}

-- what the cells did is a history of the register
abbrev pub CellsHaveHistory : Type 0
CellsHaveHistory = (c : Config) (h : List Turn) → IsRun c h → register.IsHistory (first_cell c) (cell_turns h)

-- a cell has the greatest pair that it took, and none above its promise
abbrev pub CellsAreOrdered : Type 0
CellsAreOrdered = (c : Config) (h : List Turn) → IsRun c h → (i : ℕ) → IsCellOf (first_cell c) (cell_turns h) i (cell_at c h i)

-- the ballot of a pair may write it: its copy is complete, its logs are seeded, and the pair is its state
pub record IsWriter (c : Config) (h : List Turn) (p : Stamped) : Type 0 where
  pub recoverer : RecState
  pub plan : Plan
  pub at : rec_at c h p.ballot ≡ Some recoverer
  pub written : is_written recoverer ≡ true
  pub planned : recoverer.plan ≡ Some plan
  pub value : p.value ≡ spelling plan.state

-- each pair that came to a cell is the state of its ballot
abbrev pub WrittenIsState : Type 0
WrittenIsState = (c : Config) (h : List Turn) → IsRun c h → (p : Stamped) → register.IsWritten (cell_turns h) p → IsWriter c h p

-- what a promise that was told to a recoverer is worth
abbrev pub PromisesTell : Type 0
PromisesTell =
    (c : Config) (h : List Turn) → IsRun c h → (i b : ℕ) (p : Stamped) → Told h (node.Cell i) (node.Recoverer b) (tell.Cell (Promise p.ballot p.value))
    → IsKept (first_cell c) (cell_turns h) i b p
