-- Which nodes answer asks.
use Rattle.std.specs.Prelude.{Bool, true, false, ◌≡◌, ◌⊎◌, ◌&&◌, List, [], ◌∷◌}
use Rattle.fr_base.specs.declared.place.NodeId.{NodeId}
use Rattle.fr_base.specs.declared.place.NodeId.TheVariants.{Cell, Log, Sequencer}
use Rattle.fr_base.specs.declared.node.NodeFault.{NodeFault}
use Rattle.fr_base.specs.declared.node.NodeFault.TheVariants.{Memory, Failed}
use Rattle.fr_ask.specs.declared.ask.Ask.{Ask}
use Rattle.fr_ask.specs.declared.ask.Ask.TheVariants as ask
use Rattle.fr_ask.specs.declared.tell.Tell.{Tell}
use Rattle.fr_ask.specs.declared.tell.Tell.TheVariants as tell
use Rattle.fr_audit_journal.specs.Journal.{JournalState}
use Rattle.fr_log.specs.Step as log
use Rattle.fr_proxy.specs.Sequencer as sequencer
use Rattle.fr_register.specs.Cell as cell

-- cells, logs and sequencers answer asks; proxies, recoverers and storage servers ask
abbrev pub answers : NodeId → Bool
answers (Cell index) = true
answers (Log epoch index) = true
answers (Sequencer epoch) = true
answers node = false

-- an ask is one of a node's kind
abbrev pub is_asked_of : NodeId → Ask → Bool
is_asked_of (Cell index) (ask.Cell a) = true
is_asked_of (Log epoch index) (ask.Log a) = true
is_asked_of (Sequencer epoch) (ask.Seq a) = true
is_asked_of node a = false

-- what an ask is told is what a machine tells of it in some state
pub record IsToldBy {S A T : Type 0} (wrapped : T → Tell) (told : S → A → T) (a : A) (t : Tell) : Type 0 where
  pub state : S
  pub told_is : t ≡ wrapped (told state a)

-- what an ask is told is what a cell, a log or a sequencer tells of it in some state
abbrev pub IsAnswer : Ask → Tell → Type 0
IsAnswer (ask.Cell a) t = IsToldBy (λ u. tell.Cell u) cell.answer_of a t
IsAnswer (ask.Log a) t = IsToldBy (λ u. tell.Log u) log.answer_of a t
IsAnswer (ask.Seq a) t = IsToldBy (λ u. tell.Seq u) sequencer.answer_of a t

-- why a node's journal could not be closed: there is no memory, the node could not be opened again, or it is gone and an ask that met a fault is not settled
abbrev pub IsClosingTrouble : (NodeFault → Type 0) → NodeFault → Type 0
IsClosingTrouble CanMeet fault = (fault ≡ Memory) ⊎ (CanMeet fault ⊎ (fault ≡ Failed))

-- these are journals of nodes that answer asks
abbrev pub all_answer : List JournalState → Bool
all_answer [] = true
all_answer (j ∷ js) = answers j.node && all_answer js
