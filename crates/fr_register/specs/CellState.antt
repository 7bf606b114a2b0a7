-- The state of one cell.
use Rattle.std.specs.Prelude.{ℕ, List, []}

-- the ballot below which a cell refuses, and the ballot and value of its last write
pub record CellState : Type 0 where
  pub promised : ℕ
  pub written : ℕ
  pub value : List ℕ

-- a cell that was never asked
abbrev pub fresh_cell : CellState
fresh_cell = record { promised = 0; written = 0; value = [] }
