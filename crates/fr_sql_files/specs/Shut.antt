-- Files of a store whose connection is shut.
use Rattle.std.specs.Prelude.{◌≡◌, ℕ, List, [], ◌∷◌, codes}
use Rattle.sqlite_disk.specs.declared.Disk.{Ghosts}
use Rattle.sqlite_disk.specs.declared.Files.{Files}
use Rattle.sqlite_pages.specs.PageMap.{PageMap}
use Rattle.sqlite_pool.specs.Stored.{Recovers, IsReadable}
use Rattle.sqlite_store.specs.declared.catalog.Wanted.{Wanted}
use Rattle.sqlite_store.specs.declared.store.FileStore.{FileStore}
use Rattle.sqlite_store.specs.FileStore.{state, schema_of, IsUnaltered}
use Rattle.sqlite_store.specs.Listing.{file_trees}
use Rattle.sqlite_trees.specs.declared.store.Shape.TheVariants.{Table, Index}
use Rattle.sqlite_value.specs.declared.value.Value.TheVariants.{Null, Text}
use Rattle.sqlite_wal.specs.Files.{outcomes}
use Rattle.sqlite_wal.specs.Recovery.{Image}
use Rattle.fr_undo.specs.State.{StoreState}
use Rattle.fr_sql_rows.specs.Schema.{kv_text, undo_text, meta_text}
use Rattle.fr_sql_rows.specs.OpenSchema.{by_bytes}
use Rattle.fr_sql_store.specs.Tables.{state_in}

-- a table, with the text that makes it
abbrev pub own_table : List ℕ → List ℕ → Wanted
own_table name text = record { shape = Table; reals = 0; row = Text (codes "table") ∷ Text name ∷ Text name ∷ Text text ∷ [] }

-- the index that the key of a table makes
abbrev pub own_index : List ℕ → List ℕ → Wanted
own_index name table = record { shape = Index by_bytes; reals = 0; row = Text (codes "index") ∷ Text name ∷ Text table ∷ Null ∷ [] }

-- the trees of a store, as its files list them
abbrev pub own_trees : List Wanted
own_trees =
    own_table (codes "kv") kv_text
    ∷ own_index (codes "sqlite_autoindex_kv_1") (codes "kv")
    ∷ own_table (codes "undo") undo_text
    ∷ own_index (codes "sqlite_autoindex_undo_1") (codes "undo")
    ∷ own_table (codes "meta") meta_text
    ∷ []

module _ {D : Type 0} {g : Ghosts D} where
  -- the files have pages of this size and list the trees of a store, and no list of theirs is under way
  pub record IsOwn (n : ℕ) (it : FileStore D g) : Type 0 where
    pub size : (state it).page_size ≡ n
    pub trees : schema_of it ≡ own_trees
    pub unaltered : IsUnaltered it

module _ {D : Type 0} (g : Ghosts D) where
  -- some contents that a crash may leave of the two files recover to the tables of this state
  abbrev pub FilesLeave : ℕ → Files D → StoreState → Type 0
  FilesLeave size files x =
      (image : Image) × (pages : PageMap) × outcomes g files.log files.db image × ∥ Recovers size image pages ∥₁ × (x ≡ state_in (file_trees size own_trees pages))

  -- whatever a crash leaves of the two files, a recovery reads it
  abbrev pub AreReadable : ℕ → Files D → Type 0
  AreReadable size files = (image : Image) → outcomes g files.log files.db image → ∥ IsReadable size image ∥₁
