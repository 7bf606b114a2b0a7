-- What a turn of a node enters, and how a node refuses one.
use Rattle.std.specs.Prelude.{ℕ, ◌≡◌, ◌<◌, ⊤, List, [], ◌∷◌, ◌++◌, Option, None, Some, Result, Ok, Err}
use Rattle.fr_audit_journal.specs.declared.act.Act.{Act}
use Rattle.fr_audit_journal.specs.declared.act.Act.TheVariants as act
use Rattle.fr_audit_journal.specs.declared.act.Entry.{Entry}
use Rattle.fr_node.specs.declared.turn.NodeTurn.{NodeTurn}
use Rattle.fr_node.specs.declared.turn.NodeTurn.TheVariants as turn
use Rattle.fr_node.specs.declared.turn.Hearing.{Hearing}
use Rattle.fr_node.specs.declared.fault.TurnRefusal.{TurnRefusal}
use Rattle.fr_node.specs.declared.fault.TurnRefusal.TheVariants as refusal
use Rattle.fr_node.specs.declared.fault.Crash.{Crash}
use Rattle.fr_node.specs.declared.fault.NodeTurnFault.{NodeTurnFault}
use Rattle.fr_node.specs.declared.fault.NodeTurnFault.TheVariants as fault

-- the act is that of the turn: the ask, the tell or the batch that came, from the node that it came from
abbrev pub IsOf : NodeTurn → Act → Type 0
IsOf (turn.Ask from ask) (act.Asked sender asked tell) = (sender ≡ from) × (asked ≡ ask)
IsOf (turn.Hear from tell) (act.Heard sender told taken outcome) = (sender ≡ from) × (told ≡ tell)
IsOf (turn.Submit step batch) (act.Submitted d b) = (d ≡ step) × (b ≡ batch)
IsOf turn.Begin (act.Begun shape) = ⊤
IsOf t a = ⊥

-- a turn enters one act, behind all others, above the stamp that came with it; that entry is answered
pub record IsTaken (old new : List Entry) (at : ℕ) (t : NodeTurn) (entry : Entry) : Type 0 where
  pub entries : new ≡ old ++ entry ∷ []
  pub above : at < entry.stamp
  pub act : IsOf t entry.act

-- the act is the hear that was under way, as far as it was taken
abbrev pub IsOfHearing : Option Hearing → Act → Type 0
IsOfHearing (Some h) (act.Heard sender told taken outcome) = (sender ≡ h.from) × ((told ≡ h.tell) × (outcome ≡ None))
IsOfHearing h a = ⊥

-- a node that was started again answers that it crashed, above the stamp that came with the line, and before it what it took of the hear that was under way, if it took any
abbrev pub IsBack : ℕ → Option Hearing → List Entry → Type 0
IsBack at hearing (crash ∷ []) = (at < crash.stamp) × (crash.act ≡ act.Crashed)
IsBack at hearing (heard ∷ crash ∷ []) = (at < heard.stamp) × ((heard.stamp < crash.stamp) × (IsOfHearing hearing heard.act × (crash.act ≡ act.Crashed)))
IsBack at hearing entries = ⊥

-- a turn is refused by the reason that there is; if there is none, only as full, and only if a file lacks room for what the turn writes
abbrev pub Refuses : {A : Type 0} → Option TurnRefusal → Type 0 → Result A NodeTurnFault → Type 0
Refuses (Some why) LacksRoom r = r ≡ Err (fault.Refused why)
Refuses None LacksRoom (Ok a) = ⊤
Refuses None LacksRoom (Err (fault.Refused why)) = (why ≡ refusal.Full) × LacksRoom
Refuses None LacksRoom (Err (fault.Crashed why)) = ⊤

-- what writes nothing to a file is refused by the reason that there is, and else by none
abbrev pub RefusesFor : {A : Type 0} → Option TurnRefusal → Result A NodeTurnFault → Type 0
RefusesFor (Some why) r = r ≡ Err (fault.Refused why)
RefusesFor None (Ok a) = ⊤
RefusesFor None (Err (fault.Refused why)) = ⊥
RefusesFor None (Err (fault.Crashed why)) = ⊤

-- what is so if a node can go on: if it answered, or refused
abbrev pub UnlessCrashed : {A : Type 0} → Result A NodeTurnFault → Type 0 → Type 0
UnlessCrashed (Ok a) P = P
UnlessCrashed (Err (fault.Refused why)) P = P
UnlessCrashed (Err (fault.Crashed why)) P = ⊤

-- what is so if a node did not answer, and can go on
abbrev pub IfRefused : {A : Type 0} → Result A NodeTurnFault → Type 0 → Type 0
IfRefused (Ok a) P = ⊤
IfRefused (Err (fault.Refused why)) P = P
IfRefused (Err (fault.Crashed why)) P = ⊤

-- what is so of why a node cannot go on
abbrev pub IfCrashed : {A : Type 0} → Result A NodeTurnFault → (Crash → Type 0) → Type 0
IfCrashed (Ok a) P = ⊤
IfCrashed (Err (fault.Refused why)) P = ⊤
IfCrashed (Err (fault.Crashed why)) P = P why
