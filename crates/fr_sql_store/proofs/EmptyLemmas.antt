-- A database that lists nothing is that of a store with nothing applied.
use Rattle.std.proofs.Common.{◌≡◌, ◌⊎◌, ℕ, zero, suc, ◌+◌, ◌<◌, ◌^◌, Bool, true, false, not, ◌||◌, ◌&&◌, cond, List, [], ◌∷◌, ◌++◌, map, filter, length, Result, Ok, Err, IfOk, refl, sym, ap, subst, ◌∙◌, inl, inr, arith}
use Rattle.std.specs.List.{AllZip}
use Rattle.sqlite_trees.specs.Tree.{Trees}
use Rattle.sqlite_trees.specs.Objects.{catalog_tree}
use Rattle.sqlite_trees.specs.declared.store.Shape.{Shape}
use Rattle.sqlite_trees.specs.declared.store.Shape.TheVariants.{Absent, Table, Index, Pageless, FrozenTable, FrozenIndex}
use Rattle.sqlite_value.specs.Order.{Row}
use Rattle.sqlite_wal.specs.Recovery.{Image}
use Rattle.sqlite_pages.specs.PageMap.{PageMap}
use Rattle.sqlite_store.specs.declared.catalog.Wanted.{Wanted}
use Rattle.sqlite_store.specs.Catalog.{shape_at}
use Rattle.sqlite_store.specs.Listing.{listed, listed_from, all_trees, file_trees}
use Rattle.sqlite_store.specs.Db.{trees_in, rows_at, thawed}
use Rattle.sqlite_schema.specs.declared.schema.Schema.{Schema}
use Rattle.sqlite_catalog.specs.Listing.{is_table_row, is_index_row, is_view_row, AreListed, IsSound}
use Rattle.sqlite.specs.Files.{AreFoundIn, IsEmpty, file_state, Finds}
use Rattle.sqlite.specs.Held.{Held}
use Rattle.sqlite_disk.specs.declared.Disk.{Ghosts}
use Rattle.sqlite_disk.specs.declared.Files.{Files}
use Rattle.sqlite_store.specs.declared.store.FileStore.{FileStore}
use Rattle.fr_undo.specs.declared.fault.StoreFault.{StoreFault}
use Rattle.fr_sql_store.specs.Files.{HoldStore}
use Rattle.fr_base.specs.Map.{map_by}
use Rattle.fr_undo.specs.State.{StoreState, fresh}
use Rattle.fr_sql_rows.specs.Schema.{no_schema}
use Rattle.fr_sql_store.specs.Tables.{state_in}
use Rattle.fr_sql_store.specs.Opening.{IsHeldOrMade}

-- the trees of a store
pub record IsBare (db : Trees) : Type 0 where
  pub kv : db 0 ≡ []
  pub undo : db 2 ≡ []
  pub meta : db 4 ≡ []

none_zipped : {A B : Type 0} (P : A → B → Type 0) (xs : List A) → AllZip P xs [] → xs ≡ []
none_zipped P [] z = refl
none_zipped P (x ∷ xs) z = absurd z

passes_one : (row : Row) (rows : List Row) → filter is_table_row (row ∷ rows) ≡ [] → filter is_view_row (row ∷ rows) ≡ [] → filter is_index_row (row ∷ rows) ≡ [] → ⊥
passes_one row rows t v i = go (is_table_row row) (is_view_row row) refl refl
  where
    go : (a b : Bool) → is_table_row row ≡ a → is_view_row row ≡ b → ⊥
    go true b p q = let bad = rw p at t in cc
    go false true p q = let bad = rw q at v in cc
    go false false p q = let bad = rw (p, q) at i in cc

nothing_listed : (objects : List Row) (schema : Schema) → schema.tables ≡ [] → schema.indexes ≡ [] → schema.views ≡ [] → AreListed objects schema → objects ≡ []
nothing_listed [] schema t i v l = refl
nothing_listed (row ∷ rows) schema t i v l = absurd (passes_one row rows
    (none_zipped _ _ (rw t at l.tables)) (none_zipped _ _ (rw v at l.views)) (none_zipped _ _ (rw i at l.indexes)))

-- a list of trees that lists nothing has none
absent_at : (at : ℕ) (wanted : List Wanted) → listed_from at wanted ≡ [] → (t : ℕ) → shape_at wanted t ≡ Absent
absent_at at [] none t = refl
absent_at at (w ∷ ws) none t = go w.shape refl (λ more. absent_at (at + 1) ws more) t
  where
    go : (s : Shape) → w.shape ≡ s → (listed_from (at + 1) ws ≡ [] → (t : ℕ) → shape_at ws t ≡ Absent) → (t : ℕ) → shape_at (w ∷ ws) t ≡ Absent
    go Absent e rest zero = e
    go Absent e rest (suc t) = rest (rw e at none) t
    go Table e rest t = let bad = rw e at none in cc
    go (Index o) e rest t = let bad = rw e at none in cc
    go Pageless e rest t = let bad = rw e at none in cc
    go FrozenTable e rest t = let bad = rw e at none in cc
    go (FrozenIndex o) e rest t = let bad = rw e at none in cc

bare_file : (size : ℕ) (wanted : List Wanted) (pages : PageMap) → file_trees size wanted pages catalog_tree ≡ [] → IsBare (file_trees size wanted pages)
unfolding all_trees trees_in
bare_file size wanted pages none =
    let absent = absent_at 0 wanted none in
    record { kv = rw (absent 0) refl; undo = rw (absent 2) refl; meta = rw (absent 4) refl }

bare_empty : (db : Trees) → IsEmpty db → IsBare db
bare_empty db e = record { kv = e.0 0 (omega arith); undo = e.0 2 (omega arith); meta = e.0 4 (omega arith) }

bare_found : (image : Image) (db : Trees) → AreFoundIn image db → db catalog_tree ≡ [] → IsBare db
bare_found image db (inl (size, pages, wanted, adopts, ours, is)) none =
    subst IsBare (sym is) (bare_file size wanted pages (ap (λ (d : Trees). d catalog_tree) (sym is) ∙ none))
bare_found image db (inr (nothing, empty)) none = bare_empty db empty

bare_new : (image : Image) (db : Trees) → AreFoundIn image db → image.db ≡ [] → IsBare db
bare_new image db (inl (size, pages, wanted, adopts, ours, is)) none =
    absurd (omega (arith, ap length none, adopts.found.present))
bare_new image db (inr (nothing, empty)) none = bare_empty db empty

bare_state : (db : Trees) → IsBare db → state_in db ≡ fresh
unfolding map_by
bare_state db b = rw (b.kv, b.undo, b.meta) refl

-- the trees of a database with no table list nothing
pub lists_nothing : (schema : Schema) (db : Trees) → schema ≡ no_schema → IsSound schema db → db catalog_tree ≡ []
lists_nothing schema db is sound =
    nothing_listed (db catalog_tree) schema (ap (λ (s : Schema). s.tables) is) (ap (λ (s : Schema). s.indexes) is) (ap (λ (s : Schema). s.views) is) sound.lists.listed

-- a state that is that of the tables, or a fresh one where nothing is listed, is that of the tables
found_or_made : (image : Image) (db : Trees) (x : StoreState) → AreFoundIn image db → IsHeldOrMade db x → x ≡ state_in db
found_or_made image db x found (inl held) = held
found_or_made image db x found (inr (none, made)) = made ∙ sym (bare_state db (bare_found image db found none))

-- where the file of the database is empty, it is fresh
made_new : (image : Image) (db : Trees) (x : StoreState) → AreFoundIn image db → IsHeldOrMade db x → image.db ≡ [] → x ≡ fresh
made_new image db x found (inl held) none = held ∙ bare_state db (bare_new image db found none)
made_new image db x found (inr (empty, made)) none = made

-- the same of what an open answers
module _ {D T E : Type 0} (g : Ghosts D) (files : Files D) (conn : Held (FileStore D g)) (shown_by : T → StoreState) where
  pub found_as : (r : Result T E) → Finds files conn → IfOk r (λ store. IsHeldOrMade (file_state conn).committed.trees (shown_by store))
      → IfOk r (λ store. (x : StoreState) → HoldStore g files x → shown_by store ≡ x)
  found_as (Ok store) finds is = λ x held. found_or_made _ _ _ finds.reads is ∙ ap state_in (finds.holds held.0 held.1) ∙ sym held.2
  found_as (Err e) finds is = tt

  pub new_as : (r : Result T E) → Finds files conn → IfOk r (λ store. IsHeldOrMade (file_state conn).committed.trees (shown_by store))
      → IfOk r (λ store. g.seen files.db ≡ [] → shown_by store ≡ fresh)
  new_as (Ok store) finds is = λ none. made_new _ _ _ finds.reads is none
  new_as (Err e) finds is = tt
