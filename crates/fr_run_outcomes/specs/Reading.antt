-- The first phase of a recovery comes to an end.
use Rattle.std.specs.Prelude.{◌≡◌, ◌≤◌, ℕ, List, [], ◌∷◌, Option, None, Some, IfSome, All}
use Rattle.fr_base.specs.Shape.{ShapeContent, IsShape}
use Rattle.fr_base.specs.declared.place.NodeId.TheVariants as node
use Rattle.fr_register.specs.Poll.{Stamped}
use Rattle.fr_register.specs.Chosen.{IsMajority}
use Rattle.fr_epoch.specs.Recoverer.{RecState, Parent, Locking}
use Rattle.fr_run.specs.Config.{Config}
use Rattle.fr_run.specs.Turn.{Turn}
use Rattle.fr_run.specs.Nodes.{cell_at, rec_at}
use Rattle.fr_run.specs.Run.{IsUp, MayBegin, IsRun}
use Rattle.fr_run.specs.StateLaws.{IsConfig}
use Rattle.fr_run_headline.specs.LogLaws.{tally}
use Rattle.fr_run_outcomes.specs.Going.{GoesOn}

-- the pair that a cell has
abbrev pub pair_at : Config → List Turn → ℕ → Stamped
pair_at c h i = record { ballot = (cell_at c h i).written; value = (cell_at c h i).value }

-- a run goes on by own turns of a ballot to a moment at which its recoverer has found its parent, in the pair of one cell, and locks its logs
pub record ReadsOn (c : Config) (h : List Turn) (b cell : ℕ) : Type 0 where
  pub later : List Turn
  pub goes_on : GoesOn c b h later
  pub recoverer : RecState
  pub at : rec_at c later b ≡ Some recoverer
  pub up : IsUp c later (node.Recoverer b)
  pub locking : recoverer.phase ≡ Locking
  pub parent : Parent
  pub parent_is : recoverer.parent ≡ Some parent
  pub none : (tally recoverer).replies ≡ []
  pub found : recoverer.reads.greatest ≡ pair_at c h cell

-- so does each one, for each ballot that may begin and above which no cell of some majority promised; the pair is that of the majority's first cell, if none of
-- the others has a greater one
abbrev pub ReadingEnds : Type 0
ReadingEnds =
    (c : Config) (h : List Turn) → IsConfig c → IsRun c h → (b : ℕ) (shape : Option ShapeContent) → rec_at c h b ≡ None → MayBegin b → IfSome shape IsShape
    → (first : ℕ) (others : List ℕ) → IsMajority c.cells (first ∷ others) → All (λ i. (cell_at c h i).promised ≤ b) (first ∷ others)
    → All (λ i. (cell_at c h i).written ≤ (cell_at c h first).written) others → ReadsOn c h b first
