-- What each hear makes of position and floor.
use Rattle.std.specs.Prelude.{◌≡◌, ◌≤◌, ℕ, min, max, None}
use Rattle.fr_state.specs.Generations.{CoordinatedState}
use Rattle.fr_log.specs.Peeked.{PeekedContent}
use Rattle.fr_state.specs.Same.{is_same_state}
use Rattle.std.specs.Prelude.{false}
use Rattle.fr_storage.specs.Storage.{StorageState, own_epoch, cut_in, marked_fault, after_marked, peeked_fault, after_peeked, reached_by, target_of}

-- a state that is not refused and is not the own one undoes to the cut of the own epoch
abbrev pub MarkedApplied : Type 0
MarkedApplied =
    (s : StorageState) (x : CoordinatedState) → marked_fault s x ≡ None → is_same_state x s.state ≡ false
    → (after_marked s x).store.applied ≡ min s.store.applied (cut_in x (own_epoch s.state))

-- no state changes the floor
abbrev pub MarkedFloor : Type 0
MarkedFloor = (s : StorageState) (x : CoordinatedState) → (after_marked s x).store.floor ≡ s.store.floor

-- an answer that is not refused applies through its last record, or where it or its generation ends
abbrev pub PeekedApplied : Type 0
PeekedApplied =
    (s : StorageState) (epoch : ℕ) (peeked : PeekedContent) → peeked_fault s epoch peeked ≡ None
    → (after_peeked s epoch peeked).store.applied ≡ max (reached_by s epoch peeked) (target_of s epoch peeked)

-- no answer of a log lowers the version applied
abbrev pub PeekedRises : Type 0
PeekedRises = (s : StorageState) (epoch : ℕ) (peeked : PeekedContent) → s.store.applied ≤ (after_peeked s epoch peeked).store.applied

-- an answer that is not refused raises the floor to the smaller of the version told to be known and the one applied
abbrev pub PeekedFloor : Type 0
PeekedFloor =
    (s : StorageState) (epoch : ℕ) (peeked : PeekedContent) → peeked_fault s epoch peeked ≡ None
    → (after_peeked s epoch peeked).store.floor ≡ max s.store.floor (min peeked.known (after_peeked s epoch peeked).store.applied)
