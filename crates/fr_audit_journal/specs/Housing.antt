-- A node with its journal, as contracts see it.
use Rattle.std.specs.Prelude.{ℕ, Bool, true, false, ◌≡◌, ◌⊎◌, ◌↔◌, ◌+◌, ◌-◌, ◌==◌, ◌^◌, max, ◌++◌, List, [], ◌∷◌, Option, Some, None, if◌then◌else◌, Result, Err, IfOk, OnErr}
use Rattle.fr_base.specs.declared.node.NodeFault.{NodeFault}
use Rattle.fr_base.specs.declared.node.NodeFault.TheVariants as node
use Rattle.fr_base.specs.declared.place.NodeId.{NodeId}
use Rattle.fr_ask.specs.declared.tell.Tell.{Tell}
use Rattle.fr_audit_journal.specs.declared.act.Act.{Act}
use Rattle.fr_audit_journal.specs.declared.act.Act.TheVariants as act
use Rattle.fr_audit_journal.specs.declared.act.Entry.{Entry}
use Rattle.fr_audit_journal.specs.Journal.{IsAbove, last_stamp}
use Rattle.fr_audit_journal.specs.declared.kept.AskInDoubt.{AskInDoubt}
use Rattle.fr_audit_journal.specs.declared.call_fault.CallFault.{CallFault}
use Rattle.fr_audit_journal.specs.declared.call_fault.CallFault.TheVariants as call
use Rattle.fr_audit_journal.specs.Replays.{Steps, state_after, TellsAre, IsThere, gone_at_end}

-- a node, its place, its state when it was housed, what it did since, its state, whether it is failed, and the ask
-- that met the fault
pub record Housing (N S A : Type 0) : Type 0 where
  pub node : N
  pub place : NodeId
  pub first : S
  pub entries : List Entry
  pub state : S
  pub is_failed : Bool
  pub kept : Option (AskInDoubt A)

-- the stamp of the last entry, 0 if there is none
abbrev pub number_or_zero : Option ℕ → ℕ
number_or_zero None = 0
number_or_zero (Some n) = n

abbrev pub last_number : List Entry → ℕ
last_number entries = number_or_zero (last_stamp entries)

-- the stamp of an entry that follows these, for a caller of this stamp
abbrev pub next_stamp : List Entry → ℕ → ℕ
next_stamp entries stamp = max (last_number entries) stamp + 1

-- the stamp of the ask that met the fault, 0 if there is none
abbrev pub kept_stamp : {A : Type 0} → Option (AskInDoubt A) → ℕ
kept_stamp None = 0
kept_stamp (Some k) = k.stamp

-- the greatest stamp that the next one has to be above
abbrev pub greatest_stamp : {N S A : Type 0} → Housing N S A → ℕ → ℕ
greatest_stamp h stamp = max (max (last_number h.entries) stamp) (kept_stamp h.kept)

-- whether the node is a log that is lost, or a sequencer that crashed
abbrev pub is_gone : {N S A : Type 0} → Housing N S A → Bool
is_gone h = gone_at_end h.place false h.entries

-- the state before the ask that met the fault; if none did, the node's
abbrev pub before : {N S A : Type 0} → Steps S A → Housing N S A → S
before m h = state_after m h.first h.entries

-- the entry of the ask that met the fault, if it was taken
abbrev pub found_entry : {S A : Type 0} → Steps S A → S → AskInDoubt A → Entry
found_entry m s k = record { stamp = k.stamp; act = act.Asked k.from (m.wrapped k.ask) (m.told s k.ask) }

-- the entries, and that of the ask that met the fault
abbrev pub with_found : {S A : Type 0} → Steps S A → S → List Entry → Option (AskInDoubt A) → List Entry
with_found m s entries None = entries
with_found m s entries (Some k) = entries ++ found_entry m s k ∷ []

-- whether there is such an ask, which was found taken
abbrev pub is_found : {A : Type 0} → Option (AskInDoubt A) → Bool
is_found None = false
is_found (Some k) = k.found

-- what is kept once the node is found to be before the ask, and after it

abbrev pub left_kept : {A : Type 0} → Option (AskInDoubt A) → Option (AskInDoubt A)
left_kept None = None
left_kept (Some k) = if k.found then Some k else None

abbrev pub found_kept : {A : Type 0} → Option (AskInDoubt A) → Option (AskInDoubt A)
found_kept None = None
found_kept (Some k) = Some (record k { found = true })

-- the entries once the fault is settled: with the ask that met it, if this was taken, or without it; an ask once
-- found taken stays so
abbrev pub IsSettled : {N S A : Type 0} → Steps S A → Housing N S A → List Entry → Type 0
IsSettled m h entries =
    ((is_found h.kept ≡ false) × (entries ≡ h.entries))
    ⊎ (entries ≡ with_found m (before m h) h.entries h.kept)

-- a call leaves the entries, but for the ask that met an earlier fault
abbrev pub Leaves : {N S A : Type 0} → Steps S A → Housing N S A → Housing N S A → Type 0
Leaves m old new = (new.entries ≡ old.entries) ⊎ (new.entries ≡ with_found m (before m old) old.entries old.kept)

-- a call asks the node and enters that, at the end, and nothing else but the ask that met an earlier fault; `got` is the stamp and the tell
pub record Asks {N S A : Type 0} (m : Steps S A) (old new : Housing N S A) (stamp : ℕ) (from : NodeId) (ask : A) (got : ℕ × Tell) : Type 0 where
  pub settled : List Entry
  pub is_settled : IsSettled m old settled
  pub stamp_is : got.0 ≡ next_stamp settled stamp
  pub tell_is : got.1 ≡ m.told (state_after m old.first settled) ask
  pub entries_are : new.entries ≡ settled ++ record { stamp = got.0; act = act.Asked from (m.wrapped ask) got.1 } ∷ []

-- a call enters an act, at the end, and nothing else but the ask that met an earlier fault
pub record Enters {N S A : Type 0} (m : Steps S A) (old new : Housing N S A) (stamp at : ℕ) (done : Act) : Type 0 where
  pub settled : List Entry
  pub is_settled : IsSettled m old settled
  pub stamp_is : at ≡ next_stamp settled stamp
  pub entries_are : new.entries ≡ settled ++ record { stamp = at; act = done } ∷ []

-- why a call is not taken, before anything is tried
abbrev pub refusal_of : {N S A : Type 0} → Housing N S A → ℕ → Option CallFault
refusal_of h stamp = if is_gone h then Some call.Lost else (if greatest_stamp h stamp == 2 ^ 40 - 1 then Some call.StampsSpent else None)

-- what a node that is `old` answers to a crash or a loss, which is entered as this act, and that it is `new` then
pub record IsStruck {N S A : Type 0} (by : Act) (m : Steps S A) (old new : Housing N S A) (stamp : ℕ) (result : Result ℕ CallFault) : Type 0 where
  pub entered : IfOk result (λ at. Enters m old new stamp at by)
  pub lost : (result ≡ Err call.Lost) ↔ (refusal_of old stamp ≡ Some call.Lost)
  pub spent : (result ≡ Err call.StampsSpent) ↔ (refusal_of old stamp ≡ Some call.StampsSpent)
  pub left : OnErr result (Leaves m old new)

-- a crash or a loss, as an act
abbrev pub end_of : Bool → Act
end_of true = act.Lost
end_of false = act.Crashed

-- the node works, and no fault is to be settled
abbrev pub Works : {N S A : Type 0} → Housing N S A → Type 0
Works h = (h.is_failed ≡ false) × (h.kept ≡ None)

-- what is kept after the device failed in a call: of an ask that came to the node, the ask, its sender and the stamp
-- of its entry to be; if an earlier fault is not settled yet, what was kept of that one, found taken or not
abbrev pub Keeps : {N S A : Type 0} → Steps S A → Housing N S A → Housing N S A → ℕ → NodeId → A → Type 0
Keeps m old new stamp from ask =
    (IsSettled m old new.entries × (new.kept ≡ Some (record { stamp = next_stamp new.entries stamp; from = from; ask = ask; found = false })))
    ⊎ ((Works old → ⊥) × (new.entries ≡ old.entries) × ((new.kept ≡ old.kept) ⊎ (new.kept ≡ found_kept old.kept)))

-- where the node is beside what its journal says: there, or, if an ask met a fault, before it or, once that is found,
-- after it; while it is not opened again it owes the state after that ask
abbrev pub StandsBy : {S A : Type 0} → Steps S A → S → S → Bool → Option S → AskInDoubt A → Bool → Type 0
StandsBy m s state failed owed k false = (state ≡ s) × (failed ≡ true) × (owed ≡ Some (m.after state k.ask))
StandsBy m s state failed owed k true = (state ≡ m.after s k.ask) × ((owed ≡ None) ⊎ ((owed ≡ Some (m.after state k.ask)) × (failed ≡ true)))

abbrev pub Stands : {S A : Type 0} → Steps S A → S → List Entry → S → Bool → Option S → Option (AskInDoubt A) → Type 0
Stands m s entries state failed owed None = (state ≡ s) × (owed ≡ None)
Stands m s entries state failed owed (Some k) = IsAbove entries k.stamp × StandsBy m s state failed owed k k.found

-- what is true of every node with its journal
pub record IsHoused {N S A : Type 0} (m : Steps S A) (IsReached : S → Type 0) (h : Housing N S A) (owed : Option S) : Type 0 where
  pub tells : TellsAre m h.first h.entries
  pub there : IsThere h.place false h.entries
  pub reached : IsReached (before m h)
  pub stands : Stands m (before m h) h.entries h.state h.is_failed owed h.kept

-- a fault that such a node can meet, or `Memory`
abbrev pub IsTrouble : (NodeFault → Type 0) → CallFault → Type 0
IsTrouble CanMeet (call.Node fault) = (fault ≡ node.Memory) ⊎ CanMeet fault
IsTrouble CanMeet call.StampsSpent = Unit {0}
IsTrouble CanMeet call.Lost = Unit {0}
