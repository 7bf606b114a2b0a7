-- A cell in its file: each change is one record, which spells the whole cell, and the last one holds.
use Rattle.std.specs.Prelude.{ℕ, ◌^◌, Bool, ◌==◌, ◌&&◌, ◌||◌, not, nat_le, nat_lt, if◌then◌else◌, List, [], ◌∷◌, ◌++◌, length, take, drop, Option, None, Some}
use Rattle.std.specs.Int.{w64, to_be_bytes, from_be_bytes}
use Rattle.fr_register.specs.CellState.{CellState}
use Rattle.fr_register.specs.Cell.{next_of}
use Rattle.fr_register.specs.declared.ask.CellAsk.{CellAsk}
use Rattle.fr_register.specs.declared.ask.CellAsk.TheVariants.{Read, Write}

-- the record of a cell: the ballot that it promised (8 bytes), that of its last write (8), and the value of that
abbrev pub spelled_cell : CellState → List ℕ
spelled_cell c = to_be_bytes w64 c.promised ++ (to_be_bytes w64 c.written ++ c.value)

-- a ballot: 0, or at least 256 and below 2^48
abbrev pub is_ballot : ℕ → Bool
is_ballot n = nat_lt n (2 ^ 48) && ((n == 0) || nat_le 256 n)

-- the number that the 8 bytes at a place spell
abbrev pub number_at : ℕ → List ℕ → ℕ
number_at at bytes = from_be_bytes w64 (take 8 (drop at bytes))

-- the cell that 16 bytes or more spell
abbrev pub cell_at : List ℕ → CellState
cell_at r = record { promised = number_at 0 r; written = number_at 8 r; value = drop 16 r }

-- a cell within its limits
abbrev pub is_sound : CellState → Bool
is_sound c = is_ballot c.promised && (is_ballot c.written && (nat_le c.written c.promised && nat_le (length c.value) 4096))

-- whether a record spells a cell within its limits
abbrev pub spells_cell : List ℕ → Bool
spells_cell r = nat_le 16 (length r) && is_sound (cell_at r)

-- the two ballots of such a record
abbrev pub ballots_of : List ℕ → Option (ℕ × ℕ)
ballots_of r = if spells_cell r then Some (number_at 0 r, number_at 8 r) else None

-- the cell after a record, none if the record spells no cell
abbrev pub replay_cell : CellState → List ℕ → Option CellState
replay_cell c r = if spells_cell r then Some (cell_at r) else None

-- whether an ask changes a cell
abbrev pub is_changed : CellState → CellState → Bool
is_changed c n = not ((n.promised == c.promised) && (n.written == c.written))

-- the records of an ask
abbrev pub written_cell : CellState → CellAsk → List (List ℕ)
written_cell c a = if is_changed c (next_of c a) then spelled_cell (next_of c a) ∷ [] else []

-- an ask within its limits
abbrev pub is_cell_ask : CellAsk → Bool
is_cell_ask (Read b) = is_ballot b
is_cell_ask (Write b x) = is_ballot b && nat_le (length x) 4096
