-- What is found of a store in tables that were opened.
use Rattle.std.specs.Prelude.{◌≡◌, ◌≤◌, ◌<◌, ℕ, pos, List, [], ◌∷◌, length, IsSome, IsTrue}
use Rattle.std.specs.List.{AllByRecursion}
use Rattle.sqlite.specs.declared.types.Value.TheVariants.{Int}
use Rattle.sqlite.specs.Order.{Row, column}
use Rattle.sqlite.specs.Tree.{IsTable, rowid}
use Rattle.sqlite.specs.Effect.{Database}
use Rattle.sqlite_trees.specs.View.{is_int}
use Rattle.sqlite_catalog.specs.Listing.{IsSound}
use Rattle.fr_undo.specs.declared.fault.StoreFault.{StoreFault}
use Rattle.fr_undo.specs.State.{Place}
use Rattle.fr_sql_rows.specs.Schema.{schema}
use Rattle.fr_sql_rows.specs.Rows.{meta_row, before_in}
use Rattle.fr_sql_rows.specs.Connection.{IsLaidOut}

-- a fault of the device, its room or memory
abbrev pub AnyTrouble : StoreFault → Type 0
AnyTrouble fault = Unit {0}

-- each row has a rowid, and these rise
abbrev pub AreRows : List Row → Type 0
AreRows rows = IsTable rows × AllByRecursion (λ r. IsTrue (is_int (rowid r))) rows

-- the tables obey their own schema, whatever it is
pub record IsHeld (db : Database) : Type 0 where
  pub sound : IsSound db.schema db.trees
  pub rows : AllByRecursion (λ t. AreRows (db.trees t.tree)) db.schema.tables

-- the tables obey the schema of a store
pub record ObeysStore (db : Database) : Type 0 where
  pub schema : db.schema ≡ schema
  pub held : IsHeld db

-- a row shows the version applied and the floor, in this order
abbrev pub ShowsVersions : ℕ → ℕ → Row → Type 0
ShowsVersions applied floor row = (column row 0 ≡ Int (pos applied)) × (column row 1 ≡ Int (pos floor)) × (floor ≤ applied)

-- what the queries of the versions show of a row
abbrev pub versions_of : Row → Row
versions_of r = column r 2 ∷ column r 3 ∷ []

abbrev pub version_of : Row → Row
version_of r = column r 1 ∷ []

-- the version of an undo row is above the floor and at most the one applied
abbrev pub IsBetween : ℕ → ℕ → ℕ → Row → Type 0
IsBetween floor applied at row = (v : ℕ) × (column row at ≡ Int (pos v)) × (floor < v) × (v ≤ applied)

-- the one row of what the store has of itself has these versions, in this order
pub record HasMeta (applied floor : ℕ) (db : Database) : Type 0 where
  pub row : (bytes : List ℕ) × (db.trees 4 ≡ meta_row applied floor bytes ∷ [])
  pub order : floor ≤ applied

-- there are so many undo rows, each above the floor and at most at the version applied
pub record HasUndo (floor applied rows : ℕ) (db : Database) : Type 0 where
  pub between : AllByRecursion (IsBetween floor applied 1) (db.trees 2)
  pub count : rows ≡ length (db.trees 2)

-- the tables are those of a store with these versions and so many undo rows
pub record IsFound (applied floor rows : ℕ) (db : Database) : Type 0 where
  pub laid : IsLaidOut db
  pub meta : (bytes : List ℕ) × (db.trees 4 ≡ meta_row applied floor bytes ∷ [])
  pub order : floor ≤ applied
  pub within : (p : Place) → IsSome (before_in (db.trees 2) p) → (floor < p.0) × (p.0 ≤ applied)
  pub count : rows ≡ length (db.trees 2)
