-- The last phase of a recovery comes to an end: its state is chosen.
use Rattle.std.specs.Prelude.{◌≡◌, ◌≤◌, ℕ, List, Some, All}
use Rattle.fr_base.specs.declared.place.NodeId.TheVariants as node
use Rattle.fr_register.specs.Chosen.{IsMajority}
use Rattle.fr_epoch.specs.Recoverer.{RecState, Writing, Chosen}
use Rattle.fr_run.specs.Config.{Config}
use Rattle.fr_run.specs.Turn.{Turn}
use Rattle.fr_run.specs.Nodes.{cell_at, rec_at}
use Rattle.fr_run.specs.Run.{IsUp, IsRun}
use Rattle.fr_run.specs.StateLaws.{IsConfig}
use Rattle.fr_run_outcomes.specs.Going.{GoesOn}

-- a run goes on by own turns of a ballot to a moment at which its state is chosen, and its recoverer knows it
pub record WritesOn (c : Config) (h : List Turn) (b : ℕ) : Type 0 where
  pub later : List Turn
  pub goes_on : GoesOn c b h later
  pub recoverer : RecState
  pub at : rec_at c later b ≡ Some recoverer
  pub chosen : recoverer.phase ≡ Chosen

-- so does each one in which a recoverer is up that writes, and above whose ballot no cell of some majority promised
abbrev pub WritingEnds : Type 0
WritingEnds =
    (c : Config) (h : List Turn) → IsConfig c → IsRun c h → (b : ℕ) (r : RecState) → rec_at c h b ≡ Some r → r.phase ≡ Writing → IsUp c h (node.Recoverer b)
    → (who : List ℕ) → IsMajority c.cells who → All (λ i. (cell_at c h i).promised ≤ b) who → WritesOn c h b
