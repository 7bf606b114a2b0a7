-- What the tables of a store stand for.
use Rattle.std.specs.Prelude.{◌≡◌, ℕ, List, [], slice_index_or}
use Rattle.std.specs.FinMap as map
use Rattle.sqlite.specs.Order.{Row, column}
use Rattle.sqlite.specs.Tree.{Trees}
use Rattle.sqlite.specs.State.{State}
use Rattle.fr_undo.specs.State.{StoreState, IsStoreState}
use Rattle.fr_sql_rows.specs.Rows.{number_in, contents_in, undo_in, bytes_in}
use Rattle.fr_sql_rows.specs.Connection.{IsAtRest, IsLaidOut}

-- the version applied and the floor, in the row of meta
abbrev pub applied_in : List Row → ℕ
applied_in rows = number_in (column (slice_index_or rows 0 []) 2)

abbrev pub floor_in : List Row → ℕ
floor_in rows = number_in (column (slice_index_or rows 0 []) 3)

-- the state that tables stand for
abbrev pub state_in : Trees → StoreState
state_in trees = record { contents = contents_in (trees 0); undo = undo_in (trees 2); applied = applied_in (trees 4); floor = floor_in (trees 4); bytes = bytes_in (trees 4) }

-- the connection is at rest, and its tables are those of a store with these versions and so many undo rows
pub record Stands (s : State) (applied floor rows : ℕ) : Type 0 where
  pub rest : IsAtRest s
  pub laid : IsLaidOut s.now
  pub applied_is : applied_in (s.now.trees 4) ≡ applied
  pub floor_is : floor_in (s.now.trees 4) ≡ floor
  pub count : rows ≡ map.len (undo_in (s.now.trees 2))
  pub sound : IsStoreState (state_in s.now.trees)
