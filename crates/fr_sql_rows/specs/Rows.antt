-- What the rows of the tables stand for.
use Rattle.std.specs.Prelude.{◌≡◌, ◌≤◌, ℕ, ℤ, pos, List, [], ◌∷◌, map, filter, length, slice_get, slice_index_or, Bool, Option, None, Some, option_map}
use Rattle.std.specs.Ordering.{is_eq, nat_cmp, ordering_then}
use Rattle.std.specs.declared.cmp.Ordering.{Ordering}
use Rattle.std.specs.List.{AllByRecursion}
use Rattle.sqlite.specs.declared.types.Value.{Value}
use Rattle.sqlite.specs.declared.types.Value.TheVariants.{Null, Int, Blob}
use Rattle.sqlite.specs.Order.{Row, column, bytes}
use Rattle.sqlite.specs.Tree.{IsTable}
use Rattle.fr_base.specs.Bytes.{is_same, bytes_cmp}
use Rattle.fr_base.specs.Map.{Map, map_by}
use Rattle.fr_undo.specs.State.{Place, place_cmp, UndoRows}

-- the key and the value of a row of kv
abbrev pub key_of : Row → List ℕ
key_of row = bytes (column row 1)

abbrev pub value_of : Row → List ℕ
value_of row = bytes (column row 2)

abbrev pub is_at_key : List ℕ → Row → Bool
is_at_key q row = is_same (key_of row) q

-- a row of kv is a rowid, a key and a value
abbrev pub kv_row : ℤ → List ℕ → List ℕ → Row
kv_row id k v = Int id ∷ Blob k ∷ Blob v ∷ []

abbrev pub IsKvRow : Row → Type 0
IsKvRow row = (id : ℤ) × (k : List ℕ) × (v : List ℕ) × (row ≡ kv_row id k v)

-- the value at a key
abbrev pub value_in : List Row → List ℕ → Option (List ℕ)
value_in rows q = option_map value_of (slice_get (filter (is_at_key q) rows) 0)

-- each row is one of kv, no key has two, and the rowids rise
pub record AreKvRows (rows : List Row) : Type 0 where
  pub shaped : AllByRecursion IsKvRow rows
  pub single : (q : List ℕ) → length (filter (is_at_key q) rows) ≤ 1
  pub table : IsTable rows

-- a number in a column
abbrev pub number_in : Value → ℕ
number_in (Int (pos n)) = n
number_in _ = 0

-- a blob, or none for NULL
abbrev pub blob_in : Value → Option (List ℕ)
blob_in (Blob b) = Some b
blob_in _ = None

-- what a key held before, as a value of SQL
abbrev pub as_value : Option (List ℕ) → Value
as_value None = Null
as_value (Some b) = Blob b

-- the place of an undo row, and what its key held before
abbrev pub place_of : Row → Place
place_of row = (number_in (column row 1), bytes (column row 2))

abbrev pub before_of : Row → Option (List ℕ)
before_of row = blob_in (column row 3)

abbrev pub is_at_place : Place → Row → Bool
is_at_place p row = is_eq (place_cmp (place_of row) p)

-- an undo row is a rowid, a version, a key and what it held before
abbrev pub undo_row : ℤ → ℕ → List ℕ → Option (List ℕ) → Row
undo_row id version k before = Int id ∷ Int (pos version) ∷ Blob k ∷ as_value before ∷ []

-- what a row found in a file is: one that ends with its key says, as SQL does, that the key held none
abbrev pub IsUndoRow : Row → Type 0
IsUndoRow row = (id : ℤ) × (version : ℕ) × (k : List ℕ) × (before : Row) × (row ≡ Int id ∷ Int (pos version) ∷ Blob k ∷ before)

-- what the undo row at a place says, if there is one
abbrev pub before_in : List Row → Place → Option (Option (List ℕ))
before_in rows p = option_map before_of (slice_get (filter (is_at_place p) rows) 0)

-- each row is an undo row, no place has two, and the rowids rise
pub record AreUndoRows (rows : List Row) : Type 0 where
  pub shaped : AllByRecursion IsUndoRow rows
  pub single : (p : Place) → length (filter (is_at_place p) rows) ≤ 1
  pub table : IsTable rows

-- the row of meta
abbrev pub meta_row : ℕ → ℕ → List ℕ → Row
meta_row applied floor state = Int (pos 1) ∷ Null ∷ Int (pos applied) ∷ Int (pos floor) ∷ Blob state ∷ []

-- the state bytes in the row of meta
abbrev pub bytes_in : List Row → List ℕ
bytes_in rows = bytes (column (slice_index_or rows 0 []) 4)

-- the key and the value that a query shows
abbrev pub pair_of : Row → List ℕ × List ℕ
pair_of row = (bytes (column row 0), bytes (column row 1))

-- the place that a query shows of an undo row, and what its key held before
abbrev pub shown_row : Row → Place × Option (List ℕ)
shown_row row = ((number_in (column row 0), bytes (column row 1)), blob_in (column row 2))

-- by version, the newest first, and then by key
abbrev pub newest_first : Place × Option (List ℕ) → Place × Option (List ℕ) → Ordering
newest_first x y = ordering_then (nat_cmp y.0.0 x.0.0) (bytes_cmp x.0.1 y.0.1)

-- what the tables stand for
abbrev pub contents_in : List Row → Map
contents_in rows = map_by (value_in rows) (map key_of rows)

abbrev pub undo_in : List Row → UndoRows
undo_in rows = map_by (before_in rows) (map place_of rows)
