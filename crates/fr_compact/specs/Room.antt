-- Room for a group, and for it behind the records that spell the state.
use Rattle.std.specs.Prelude.{ℕ, ◌+◌, ◌*◌, ◌<◌, ◌≤◌, ◌⊎◌, max, List, fold}
use Rattle.fr_segment.specs.Room.{group_size, begun_size}

-- of the bytes that each of these asks leaves free, the most
abbrev pub spare_all : {A : Type 0} → (A → ℕ) → List A → ℕ
spare_all spare asks = fold (λ most ask. max most (spare ask)) 0 asks

-- behind the records of the file, and the gate behind them, so many bytes are free
abbrev pub HasSpare : {F : Type 0} → (F → ℕ) → (F → ℕ) → F → ℕ → Type 0
HasSpare room used file spare = used file + 10 + spare ≤ room file

module _ {F : Type 0} (room used next_room front : F → ℕ) where
  -- the file has no room for a group, the gate behind it, and the bytes that are to stay free
  abbrev pub IsFullFor : F → List (List ℕ) → ℕ → Type 0
  IsFullFor file group spare = room file < used file + group_size group + 10 + spare

  -- Letting go is no help: there is no room behind what spells the state for the group and the bytes that are to stay
  -- free. Or some are to, and what spells the state takes more than half of the next room.
  abbrev pub IsNoHelp : F → List (List ℕ) → List (List ℕ) → ℕ → Type 0
  IsNoHelp file spelled group spare =
      (next_room file < begun_size (front file) spelled + group_size group + 10 + spare)
      ⊎ ((0 < spare) × (next_room file < 2 * (begun_size (front file) spelled + 10)))

  -- the file has no room for a group, and would have none if it let go
  abbrev pub HasNoRoom : F → List (List ℕ) → List (List ℕ) → ℕ → Type 0
  HasNoRoom file spelled group spare = IsFullFor file group spare × IsNoHelp file spelled group spare
