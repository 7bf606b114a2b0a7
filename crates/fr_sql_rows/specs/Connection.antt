-- What a statement makes of the connection and of the tables.
use Rattle.std.specs.Prelude.{◌≡◌, ℕ, List, [], ◌∷◌, Bool, true, false, cond, Option, None, Some, IsTrue}
use Rattle.std.specs.Ordering.{is_eq}
use Rattle.sqlite.specs.Table.{Table}
use Rattle.sqlite.specs.Schema.{Schema}
use Rattle.sqlite_catalog.specs.Change.{created, next_tree, KeepsRows}
use Rattle.sqlite.specs.Effect.{Database}
use Rattle.sqlite.specs.State.{State, Survives}
use Rattle.fr_base.specs.Bytes.{is_same}
use Rattle.fr_undo.specs.State.{Place, place_cmp}
use Rattle.fr_sql_rows.specs.Schema.{schema}
use Rattle.fr_sql_rows.specs.Rows.{AreKvRows, AreUndoRows, meta_row, value_in, before_in}

-- the connection is open, outside a transaction, and has nothing to commit
pub record IsAtRest (s : State) : Type 0 where
  pub is_open : IsTrue s.is_open
  pub autocommit : s.in_transaction ≡ false
  pub settled : s.now ≡ s.committed

-- the tables of a store
pub record IsLaidOut (db : Database) : Type 0 where
  pub schema : db.schema ≡ schema
  pub kv : AreKvRows (db.trees 0)
  pub undo : AreUndoRows (db.trees 2)
  pub meta : (applied : ℕ) × (floor : ℕ) × (bytes : List ℕ) × (db.trees 4 ≡ meta_row applied floor bytes ∷ [])

-- the same is there, and nothing to commit
pub record Keeps (old new : State) : Type 0 where
  pub now : new.now ≡ old.now
  pub rest : IsAtRest new

-- while the connection is open, the same is there
abbrev pub KeepsIfOpen : State → State → Type 0
KeepsIfOpen old new = IsTrue new.is_open → Keeps old new

-- nothing is committed: a crash leaves nothing that it did not leave before
abbrev pub CommitsNothing : State → State → Type 0
CommitsNothing old new = Survives old new (λ _. ⊥)

-- the connection is open, in a transaction
pub record IsInside (s : State) : Type 0 where
  pub is_open : IsTrue s.is_open
  pub begun : s.in_transaction ≡ true

-- while the connection is open, what a rollback goes back to is as it was
abbrev pub Stays : State → State → Type 0
Stays old new = IsTrue new.is_open → new.committed ≡ old.committed

-- a key takes a value, or none, and the rest of the tables is as it was
pub record Sets (key : List ℕ) (value : Option (List ℕ)) (old new : Database) : Type 0 where
  pub laid : IsLaidOut new
  pub values : (q : List ℕ) → value_in (new.trees 0) q ≡ cond (is_same key q) value (value_in (old.trees 0) q)
  pub undo : new.trees 2 ≡ old.trees 2
  pub meta : new.trees 4 ≡ old.trees 4

-- an undo row is added
pub record Notes (version : ℕ) (key : List ℕ) (before : Option (List ℕ)) (old new : Database) : Type 0 where
  pub laid : IsLaidOut new
  pub kv : new.trees 0 ≡ old.trees 0
  pub rows : (p : Place) → before_in (new.trees 2) p ≡ cond (is_eq (place_cmp (version, key) p)) (Some before) (before_in (old.trees 2) p)
  pub meta : new.trees 4 ≡ old.trees 4

-- the undo rows that pass a test stay, and the others go
pub record Retains (test : Place → Bool) (old new : Database) : Type 0 where
  pub laid : IsLaidOut new
  pub kv : new.trees 0 ≡ old.trees 0
  pub rows : (p : Place) → before_in (new.trees 2) p ≡ cond (test p) (before_in (old.trees 2) p) None
  pub meta : new.trees 4 ≡ old.trees 4

-- the two versions are noted
pub record Versions (applied floor : ℕ) (old new : Database) : Type 0 where
  pub laid : IsLaidOut new
  pub kv : new.trees 0 ≡ old.trees 0
  pub undo : new.trees 2 ≡ old.trees 2
  pub meta : (a f : ℕ) (bytes : List ℕ) → old.trees 4 ≡ meta_row a f bytes ∷ [] → new.trees 4 ≡ meta_row applied floor bytes ∷ []

-- the state bytes are noted
pub record HoldsBytes (bytes : List ℕ) (old new : Database) : Type 0 where
  pub laid : IsLaidOut new
  pub kv : new.trees 0 ≡ old.trees 0
  pub undo : new.trees 2 ≡ old.trees 2
  pub meta : (a f : ℕ) (before : List ℕ) → old.trees 4 ≡ meta_row a f before ∷ [] → new.trees 4 ≡ meta_row a f bytes ∷ []

-- a table is made, empty, and the rows of those before it stay
pub record Creates (before : Schema) (table : Table) (old new : Database) : Type 0 where
  pub schema : new.schema ≡ created before table
  pub empty : new.trees (next_tree before) ≡ []
  pub others : KeepsRows before.tables old.trees new.trees

-- the one row of meta is put in
pub record BeginsMeta (old new : Database) : Type 0 where
  pub schema : new.schema ≡ old.schema
  pub kv : new.trees 0 ≡ old.trees 0
  pub undo : new.trees 2 ≡ old.trees 2
  pub meta : new.trees 4 ≡ meta_row 0 0 [] ∷ []

-- the tables are those of a store with nothing applied
pub record IsBegun (db : Database) : Type 0 where
  pub schema : db.schema ≡ schema
  pub kv : db.trees 0 ≡ []
  pub undo : db.trees 2 ≡ []
  pub meta : db.trees 4 ≡ meta_row 0 0 [] ∷ []
