-- What a call leaves of the machine behind a handle, by its status.
use Rattle.std.specs.Prelude.{◌≡◌, ◌≢◌, ◌==◌, ◌⊎◌, ℕ, Bool, true, false, List, [], ◌∷◌, Option, None, Some, IsSome}
use Rattle.std.specs.List.{list_any}
use Rattle.fr_base.specs.declared.place.NodeId.{NodeId}
use Rattle.fr_ask.specs.declared.ask.Ask.{Ask}
use Rattle.fr_ask.specs.declared.tell.Tell.{Tell}
use Rattle.fr_part.specs.Hear.{IsHearRefused, IsPartHeard}
use Rattle.fr_part.specs.Seat.{HearsIn, seat_after}
use Rattle.fr_part.specs.Turn.{told_of}
use Rattle.fr_part.specs.declared.part.Part.{Part}
use Rattle.fr_part.specs.declared.seat.Seat.{Seat}
use Rattle.fr_part.specs.declared.said.Said.TheVariants as said

-- a call of an empty handle says so, and leaves it empty; one of a machine leaves the machine there
abbrev pub Over : Option Seat → Option Seat → ℕ → (Seat → Seat → Type 0) → Type 0
Over None None status Turn = status ≡ 2
Over None (Some new) status Turn = ⊥
Over (Some old) None status Turn = ⊥
Over (Some old) (Some new) status Turn = Turn old new

-- the status is one of these
abbrev pub IsAmong : List ℕ → ℕ → Type 0
IsAmong [] status = ⊥
IsAmong (one ∷ others) status = (status ≡ one) ⊎ IsAmong others status

-- the turn is done, and its answer is given or is to be fetched: OK, SHORT, UNTOLD
abbrev pub is_told : ℕ → Bool
is_told status = list_any (λ one. one == status) (0 ∷ 3 ∷ 8 ∷ [])

-- the same, or a cell or a log was asked and refused: REFUSED, TWO_VALUES
abbrev pub is_answered : ℕ → Bool
is_answered status = list_any (λ one. one == status) (0 ∷ 3 ∷ 5 ∷ 8 ∷ 10 ∷ [])

-- the turn is done, or all is as it was
abbrev pub IsTurn : Bool → Seat → Seat → Type 0 → Type 0
IsTurn done old new Done = (done ≡ true → Done) × (done ≡ false → new ≡ old)

-- the machine was asked one ask, of its own kind
abbrev pub AnyAsk : Seat → Seat → Type 0
AnyAsk old new = (a : Ask) × IsSome (told_of old.part a) × (new ≡ seat_after old a)

-- the machine heard one tell of a node, and did not refuse it
abbrev pub AnyHear : Seat → Seat → Type 0
AnyHear old new = (from : NodeId) × (t : Tell) × (IsHearRefused old.part from t → ⊥) × HearsIn old from t new

-- the machine refuses one tell of a node
abbrev pub AnyRefused : Seat → Type 0
AnyRefused old = (from : NodeId) × (t : Tell) × IsHearRefused old.part from t

-- a storage server ran out of memory while it heard one tell of a node
abbrev pub AnyPart : Seat → Seat → Type 0
AnyPart old new = (from : NodeId) × (t : Tell) × (new.said ≡ old.said) × IsPartHeard old.part from t new.part

-- a call that makes a machine: it is there and took no turn yet, or all is as it was
abbrev pub IsMade : ℕ → Option Seat → Option Seat → Part → Type 0
IsMade status old new p =
    (status ≡ 0 → new ≡ Some (record { part = p; said = said.Nothing })) × (status ≢ 0 → new ≡ old)

-- there is a value, and it is so
abbrev pub IfFound : Option (List ℕ) → (List ℕ → Type 0) → Type 0
IfFound None P = ⊥
IfFound (Some value) P = P value
