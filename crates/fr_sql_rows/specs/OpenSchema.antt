-- The parts of the schema of a store, as a test of a schema that was found names them.
use Rattle.std.specs.Prelude.{◌≡◌, ℕ, Bool, true, false, pos, List, [], ◌∷◌, codes}
use Rattle.sqlite.specs.declared.types.Value.TheVariants.{Null, Int}
use Rattle.sqlite.specs.Table.{Table}
use Rattle.sqlite.specs.Schema.{Schema}
use Rattle.fr_sql_rows.specs.Schema.{kv, undo, meta}
use Rattle.sqlite.specs.Term.{Term, lit, col, op2}
use Rattle.sqlite.specs.Kind.{Kind}
use Rattle.sqlite.specs.Collation.TheVariants.{Binary}
use Rattle.sqlite_value.specs.declared.keys.Order.{Order}
use Rattle.sqlite_schema.specs.declared.schema.Column.{Column}
use Rattle.sqlite_schema.specs.declared.schema.Index.{Index}
use Rattle.sqlite_sql.specs.declared.ops.BinaryOp.TheVariants.{Compare}
use Rattle.sqlite_sql.specs.declared.ops.CompareOp.TheVariants.{Eq}

-- a column of a STRICT table with no default
abbrev pub column : List ℕ → Kind → Bool → Column
column name kind not_null = record { name = name; kind = kind; is_strict = true; not_null = not_null; default = Null; collation = Binary }

-- the rowid is 1
abbrev pub key_check : Term
key_check = op2 (Compare Eq Binary) (col 1 0) (lit (Int (pos 1)))

-- by the bytes of each column, upwards
abbrev pub by_bytes : Order
by_bytes = record { digits = 0 }

-- the index that is made for a key of these places
abbrev pub automatic : List ℕ → ℕ → ℕ → List ℕ → Index
automatic name tree table places = record { name = name; tree = tree; table = table; columns = places; order = by_bytes; is_unique = true }

-- nothing but columns and keys
pub record IsBare (t : Table) : Type 0 where
  pub references : t.references ≡ []
  pub computed : t.computed ≡ []
  pub places : t.stamps.places ≡ []
  pub terms : t.stamps.terms ≡ []
  pub formats : t.stamps.formats ≡ []
  pub uncounted : t.is_counted ≡ false

-- a key of these places with its index
pub record IsKeyed (places : List ℕ) (t : Table) : Type 0 where
  pub primary : t.primary ≡ places
  pub uniques : t.uniques ≡ places ∷ []
  pub orders : t.orders ≡ by_bytes ∷ []

-- the schema of a store, with the numbers of its trees
abbrev pub own : Schema
own = record {
  tables = kv ∷ (record undo { tree = 2 }) ∷ (record meta { tree = 4 }) ∷ [];
  indexes = automatic (codes "sqlite_autoindex_kv_1") 1 0 (1 ∷ []) ∷ automatic (codes "sqlite_autoindex_undo_1") 3 2 (1 ∷ 2 ∷ []) ∷ [];
  views = [];
}
