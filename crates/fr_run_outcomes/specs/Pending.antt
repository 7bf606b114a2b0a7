-- What a recoverer waits for it has asked, and an answer to it can come.
use Rattle.std.specs.Prelude.{◌≡◌, ℕ, List, ◌∷◌, Some, Contains}
use Rattle.fr_base.specs.declared.place.NodeId.{NodeId}
use Rattle.fr_base.specs.declared.place.NodeId.TheVariants as node
use Rattle.fr_register.specs.Cell as cell
use Rattle.fr_log.specs.Step as log
use Rattle.fr_ask.specs.declared.ask.Ask.{Ask}
use Rattle.fr_ask.specs.declared.ask.Ask.TheVariants as ask
use Rattle.fr_ask.specs.declared.tell.Tell.{Tell}
use Rattle.fr_ask.specs.declared.tell.Tell.TheVariants as told
use Rattle.fr_epoch.specs.Recoverer.{RecState}
use Rattle.fr_epoch.specs.Asks.{pending, new_asks}
use Rattle.fr_epoch.specs.Hear.{after_hear}
use Rattle.fr_run.specs.Config.{Config}
use Rattle.fr_run.specs.Turn.{Turn, CellTurn, LogTurn, RecHeard, Sent}
use Rattle.fr_run.specs.Nodes.{cell_at, rec_at, log_at}
use Rattle.fr_run.specs.Run.{IsUp, IsRun}

-- each ask whose answer a recoverer still wants it sent; the other way round each ask that was sent is accounted for
abbrev pub PendingIsSent : Type 0
PendingIsSent =
    (c : Config) (h : List Turn) → IsRun c h → (b : ℕ) (r : RecState) → rec_at c h b ≡ Some r → (to : NodeId) (a : Ask) → Contains (pending r) (to, a) → Sent h (node.Recoverer b) to a

-- the turn in which an ask of a recoverer comes to a node, and what the node tells
abbrev pub IsAnswerOf : Config → List Turn → ℕ → NodeId → Ask → Turn → Tell → Type 0
IsAnswerOf c h b (node.Cell i) (ask.Cell a) asked t = (asked ≡ CellTurn (node.Recoverer b) i a (cell.answer_of (cell_at c h i) a)) × (t ≡ told.Cell (cell.answer_of (cell_at c h i) a))
IsAnswerOf c h b (node.Log e i) (ask.Log a) asked t = (asked ≡ LogTurn (node.Recoverer b) e i a (log.answer_of (log_at c h e i) a)) × (t ≡ told.Log (log.answer_of (log_at c h e i) a))
IsAnswerOf c h b to a asked t = ⊥

-- two turns in which a node is asked this, and the recoverer hears its answer
pub record IsExchanged (c : Config) (h : List Turn) (b : ℕ) (r : RecState) (to : NodeId) (a : Ask) : Type 0 where
  pub asked : Turn
  pub tell : Tell
  pub answers : IsAnswerOf c h b to a asked tell
  pub is_run : IsRun c (RecHeard b to tell (new_asks r to tell) ∷ asked ∷ h)
  pub after : rec_at c (RecHeard b to tell (new_asks r to tell) ∷ asked ∷ h) b ≡ Some (after_hear r to tell)

-- so each ask that is pending can be answered and heard, if recoverer and node are up
abbrev pub PendingMayBeHeard : Type 0
PendingMayBeHeard =
    (c : Config) (h : List Turn) → IsRun c h → (b : ℕ) (r : RecState) → rec_at c h b ≡ Some r → IsUp c h (node.Recoverer b)
    → (to : NodeId) (a : Ask) → Contains (pending r) (to, a) → IsUp c h to → IsExchanged c h b r to a
