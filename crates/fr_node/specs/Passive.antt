-- A node that answers asks, with its journal, as contracts see it.
use Rattle.std.specs.Prelude.{ℕ, Bool, true, false, ◌≡◌, ◌==◌, ◌-◌, ◌^◌, max, List, [], ◌∷◌, Option, None, Some, if◌then◌else◌}
use Rattle.fr_base.specs.declared.node.NodeFault.{NodeFault}
use Rattle.fr_base.specs.declared.node.NodeFault.TheVariants as node
use Rattle.fr_base.specs.declared.place.NodeId.{NodeId}
use Rattle.fr_ask.specs.declared.ask.Ask.{Ask}
use Rattle.fr_audit_journal.specs.declared.act.Entry.{Entry}
use Rattle.fr_audit_journal.specs.declared.act.Act.TheVariants as act
use Rattle.fr_audit_journal.specs.Housing.{last_number}
use Rattle.fr_audit_journal.specs.Replays.{Steps, TellsAre, IsThere, gone_at_end, state_after}
use Rattle.fr_node.specs.declared.turn.NodeTurn.{NodeTurn}
use Rattle.fr_node.specs.declared.turn.NodeTurn.TheVariants as turn
use Rattle.fr_node.specs.declared.turn.Hearing.{Hearing}
use Rattle.fr_node.specs.declared.fault.TurnRefusal.{TurnRefusal}
use Rattle.fr_node.specs.declared.fault.TurnRefusal.TheVariants as refusal
use Rattle.fr_node.specs.declared.fault.Crash.{Crash}
use Rattle.fr_node.specs.declared.fault.Crash.TheVariants as crash

-- the node, its place, the state in which its process found it, what it did since, and whether it is over files that outlast the process
pub record PassiveState (N S : Type 0) : Type 0 where
  pub node : N
  pub place : NodeId
  pub first : S
  pub entries : List Entry
  pub has_files : Bool

-- what it did leads from the first state to this one: each ask was told what the machine tells, and it is not gone
pub record IsServed {S A : Type 0} (m : Steps S A) (place : NodeId) (first : S) (entries : List Entry) (state : S) : Type 0 where
  pub tells : TellsAre m first entries
  pub there : IsThere place false entries
  pub stays : gone_at_end place false entries ≡ false
  pub state_is : state ≡ state_after m first entries

-- whether no stamp is above one and those of some entries
abbrev pub are_spent : List Entry → ℕ → Bool
are_spent entries at = max (last_number entries) at == 2 ^ 40 - 1

-- the reason why an ask is refused: it is one of another kind of node, or else the stamps are spent
abbrev pub ask_refusal : {A : Type 0} → Option A → Bool → Option TurnRefusal
ask_refusal None spent = Some refusal.OtherAsk
ask_refusal (Some a) spent = if spent then Some refusal.StampsSpent else None

-- the reason why a node is not started again: it has no files, or it is said to have heard something, or else the stamps are spent
abbrev pub back_refusal : Bool → List Entry → ℕ → Option Hearing → Option TurnRefusal
back_refusal false entries at hearing = Some refusal.NotTaken
back_refusal true entries at (Some h) = Some refusal.NotTaken
back_refusal true entries at None = if are_spent entries at then Some refusal.StampsSpent else None

-- the reason why a turn is refused: a node that answers asks takes no other turn
abbrev pub passive_refusal : {A : Type 0} → (Ask → Option A) → List Entry → ℕ → NodeTurn → Option TurnRefusal
passive_refusal unwrapped entries at (turn.Ask from ask) = ask_refusal (unwrapped ask) (are_spent entries at)
passive_refusal unwrapped entries at t = Some refusal.NotTaken

-- whether a file lacks room for what a turn writes: for its ask, if that is one of the node's own
abbrev pub lacks_room_for : {A : Type 0} → Option A → (A → Type 0) → Type 0
lacks_room_for None LacksRoom = ⊥
lacks_room_for (Some a) LacksRoom = LacksRoom a

abbrev pub lacks_room : {A : Type 0} → (Ask → Option A) → (A → Type 0) → NodeTurn → Type 0
lacks_room unwrapped LacksRoom (turn.Ask from ask) = lacks_room_for (unwrapped ask) LacksRoom
lacks_room unwrapped LacksRoom t = ⊥

-- a crash, and nothing else
abbrev pub IsOnlyCrash : List Entry → Type 0
IsOnlyCrash (e ∷ []) = e.act ≡ act.Crashed
IsOnlyCrash es = ⊥

-- why a node cannot go on: out of memory, or by a fault that it can meet
abbrev pub IsCrash : (NodeFault → Type 0) → Crash → Type 0
IsCrash CanMeet crash.Memory = Unit {0}
IsCrash CanMeet crash.Device = CanMeet node.Device
IsCrash CanMeet crash.Broken = CanMeet node.Broken
IsCrash CanMeet crash.Store = ⊥
