-- Files that are taken out of a store, and opened again.
use Rattle.std.proofs.Common.{◌≡◌, ◌⊎◌, inl, inr, ℕ, List, Option, false, IsTrue, sym, ap, subst, ◌∙◌}
use Rattle.std.proofs.Math.Logic.{∥∥₁_elim, ∥∥₁_map}
use Rattle.sqlite_disk.specs.declared.Disk.{Ghosts}
use Rattle.sqlite_disk.specs.declared.Files.{Files}
use Rattle.sqlite_pages.specs.PageMap.{PageMap}
use Rattle.sqlite_pool.specs.declared.pool.Pool.{Pool}
use Rattle.sqlite_pool.specs.Pool as pool
use Rattle.sqlite_pool.specs.Stored.{Recovers, IsReadable, RecoversAs, trimmed, stored_size}
use Rattle.sqlite_store.specs.declared.catalog.Wanted.{Wanted}
use Rattle.sqlite_store.specs.declared.saved.Saved.{Saved}
use Rattle.sqlite_store.specs.declared.store.FileStore.{FileStore}
use Rattle.sqlite_store.specs.declared.store.open.Unopened.{Unopened}
use Rattle.sqlite_store.specs.FileStore.{state, files, schema_of, IsUnaltered, view, IsReady}
use Rattle.sqlite_trees.specs.Tree.{Trees}
use Rattle.sqlite_trees.specs.declared.store.Store as store
use Rattle.sqlite.specs.Effect.{Database}
use Rattle.sqlite.specs.Held as held
use Rattle.sqlite.specs.Held.{Held}
use Rattle.sqlite.specs.Files.{over_files}
use Rattle.sqlite.specs.Steps.{IsFresh}
use Rattle.fr_sql_rows.specs.Backing.{files_are_clean}
use Rattle.fr_sql_rows.specs.Connection.{IsAtRest}
use Rattle.fr_sql_rows.proofs.OpenLemmas.{whole_open}
use Rattle.sqlite_store.specs.Listing.{file_trees}
use Rattle.sqlite_store.specs.Saved.{schema_for}
use Rattle.sqlite_store.specs.Unopened as unopened
use Rattle.sqlite_wal.specs.Files.{outcomes, seen_image}
use Rattle.sqlite_wal.specs.Recovery.{Image}
use Rattle.sqlite_wal.specs.State.{State}
use Rattle.sqlite_wal.proofs.RecoveryLemmas.{recovers_once}
use Rattle.fr_undo.specs.State.{StoreState}
use Rattle.fr_sql_store.specs.Tables.{state_in, StoreLeaves}
use Rattle.fr_sql_files.specs.Shut.{own_trees, IsOwn, FilesLeave, AreReadable}
use Rattle.fr_sql_store.proofs.FileLemmas.{both_true}
use Rattle.fr_sql_store.proofs.StoreLemmas.{Lawful}

-- ---- recovery

-- two images that stand for the same stored pages have the same pages
pub same_pages : (size : ℕ) (image left : Image) (p q : PageMap) → RecoversAs size image left → Recovers size image p → Recovers size left q → p ≡ q
same_pages size image left p q stands a b =
    sym a.shows ∙ ap (trimmed size) (recovers_once (stored_size size) left a.stored b.stored (stands a.stored a.found) b.found) ∙ b.shows

pub still_reads : (size : ℕ) (image left : Image) (p : PageMap) → RecoversAs size image left → Recovers size image p → Recovers size left p
still_reads size image left p stands a =
    let found = stands a.stored a.found in
    record { stored = a.stored; found = found; whole = a.whole; sealed = a.sealed; shows = a.shows; present = found.present }

-- ---- what a crash may leave of a pool and of its files

pub outcomes_of : {D : Type 0} {g : Ghosts D} (it : Pool D g) (left : Image) → (pool.state it).may_leave left → outcomes g (pool.files it).0 (pool.files it).1 left
unfolding pool.state pool.files
outcomes_of it left may = may.1

pub may_of : {D : Type 0} {g : Ghosts D} (it : Pool D g) → ((d : D) → IsTrue (g.is_clean d)) → (left : Image) → outcomes g (pool.files it).0 (pool.files it).1 left → (pool.state it).may_leave left
unfolding pool.state pool.files
may_of it faithful left out = (both_true _ _ (faithful _) (faithful _), out)

pub pool_clean : {D : Type 0} {g : Ghosts D} (it : Pool D g) → ((d : D) → IsTrue (g.is_clean d)) → IsTrue (pool.state it).is_clean
unfolding pool.state
pool_clean it faithful = both_true _ _ (faithful _) (faithful _)

module _ {D : Type 0} (g : Ghosts D) (faithful : (d : D) → IsTrue (g.is_clean d)) where
  -- what a crash may leave of a store of files
  abbrev Left : FileStore D g → StoreState → Type 0
  Left = StoreLeaves (over_files {g = g})

  abbrev out : D × D → Image → Type 0
  out pair = outcomes g pair.0 pair.1

  -- the trees that pages read as, whose schema is the store's own
  reads_own : (it : FileStore D g) (size : ℕ) → IsOwn size it → (pages : PageMap) → file_trees size own_trees pages ≡ file_trees (state it).page_size (schema_for it.saved (schema_of it) pages) pages
  reads_own it size own pages =
      sym (ap (λ n. file_trees n (schema_for it.saved (schema_of it) pages) pages) own.size ∙ ap (λ (s : Option Saved). file_trees size (schema_for s (schema_of it) pages) pages) own.unaltered ∙ ap (λ (s : List Wanted). file_trees size s pages) own.trees)

  -- ---- a store taken apart

  pub apart_leaves : (it : FileStore D g) (size : ℕ) (f : Files D) → IsOwn size it → (f.log, f.db) ≡ files it → (x : StoreState) → FilesLeave g size f x → Left it x
  apart_leaves it size f own same x (image, pages, may, found, is) = (
    file_trees size own_trees pages,
    (image, pages, may_of it.pool faithful image (subst (λ p. out p image) same may), subst (λ n. ∥ Recovers n image pages ∥₁) (sym own.size) found, reads_own it size own pages),
    is,
  )

  pub apart_readable : (it : FileStore D g) (size : ℕ) (f : Files D) → IsOwn size it → (f.log, f.db) ≡ files it → AreReadable g size f
  apart_readable it size f own same image may =
      ∥∥₁_map it.safe (λ all. let r = all image (may_of it.pool faithful image (subst (λ p. out p image) same may)) in (r.0, subst (λ n. Recovers n image r.0) own.size r.1))

  -- ---- files that are opened

  module _ (size : ℕ) (f : Files D) (readable : AreReadable g size f) (stays : (d : D) → g.may_leave d (g.seen d)) (fresh : Unopened D g) (sized : (unopened.state_of fresh).page_size ≡ size) (same : unopened.files_of fresh ≡ (f.log, f.db)) where
    abbrev seen : Image
    seen = seen_image g f.log f.db

    seen_stays : outcomes g f.log f.db seen
    seen_stays = (stays f.log, stays f.db)

    -- an outcome of the files once they were opened, or not, and what it reads as
    opened_image : (after : State) → unopened.Opens fresh after → (left : Image) → after.may_leave left → outcomes g f.log f.db left ⊎ RecoversAs size seen left
    opened_image after opens left may =
        elim (opens.crash left may).same [
          | inl before ↦ inl (subst (λ p. out p left) same (outcomes_of fresh.pool left before))
          | inr stands ↦ inr (subst (λ n. RecoversAs n seen left) sized (subst (λ (p : D × D). RecoversAs (unopened.state_of fresh).page_size (seen_image g p.0 p.1) left) same stands))
        ]

    opened_pages : (after : State) → unopened.Opens fresh after → (left : Image) (pages : PageMap) → after.may_leave left → ∥ Recovers size left pages ∥₁ → (x : StoreState) → x ≡ state_in (file_trees size own_trees pages) → FilesLeave g size f x
    opened_pages after opens left pages may found x is =
        elim (opened_image after opens left may) [
          | inl before ↦ (left, pages, before, found, is)
          | inr stands ↦ (seen, pages, seen_stays, ∥∥₁_elim found squash₁ (λ now. ∥∥₁_map (readable seen seen_stays) (λ was. subst (Recovers size seen) (same_pages size seen left was.0 pages stands was.1 now) was.1)), is)
        ]

    opened_readable : (after : State) → unopened.Opens fresh after → (left : Image) → after.may_leave left → ∥ IsReadable size left ∥₁
    opened_readable after opens left may =
        elim (opened_image after opens left may) [
          | inl before ↦ readable left before
          | inr stands ↦ ∥∥₁_map (readable seen seen_stays) (λ was. (was.0, still_reads size seen left was.0 stands was.1))
        ]

    -- the store that is opened
    pub opened_leaves : (it : FileStore D g) → (IsTrue (state it).is_clean → unopened.Opens fresh (state it)) → schema_of it ≡ own_trees → IsUnaltered it → (x : StoreState) → Left it x → FilesLeave g size f x
    opened_leaves it kept trees unaltered x (db, (image, pages, may, found, reads), is) =
        let opens = kept (pool_clean it.pool faithful) in
        let own = (let r : IsOwn size it = record { size = opens.size ∙ sized; trees = trees; unaltered = unaltered } in r) in
        opened_pages (state it) opens image pages may (subst (λ n. ∥ Recovers n image pages ∥₁) own.size found) x (is ∙ ap state_in (reads ∙ sym (reads_own it size own pages)))

    -- the files that are not opened
    pub refused_leaves : (left : Unopened D g) (after : Files D) → (IsTrue (unopened.state_of left).is_clean → unopened.Opens fresh (unopened.state_of left)) → (after.log, after.db) ≡ unopened.files_of left → (x : StoreState) → FilesLeave g size after x → FilesLeave g size f x
    refused_leaves left after kept gone x (image, pages, may, found, is) =
        opened_pages (unopened.state_of left) (kept (pool_clean left.pool faithful)) image pages (may_of left.pool faithful image (subst (λ p. out p image) gone may)) found x is

    pub refused_readable : (left : Unopened D g) (after : Files D) → (IsTrue (unopened.state_of left).is_clean → unopened.Opens fresh (unopened.state_of left)) → (after.log, after.db) ≡ unopened.files_of left → AreReadable g size after
    refused_readable left after kept gone image may =
        opened_readable (unopened.state_of left) (kept (pool_clean left.pool faithful)) image (may_of left.pool faithful image (subst (λ p. out p image) gone may))

  -- ---- a store that is opened

  pub ready_fresh : (it : FileStore D g) → IsReady it → IsTrue (view it).is_numbered → IsFresh (view it)
  ready_fresh it ready numbered = record { sound = ready.sound (files_are_clean faithful it); numbered = numbered; clean = ready.clean; unmarked = ready.unmarked }

-- ---- tables that are opened, and their connection

module _ {S : Type 0} (g : store.Ghosts S) (law : Lawful g) (shut_is_broken : (s : S) → (g.view s).is_open ≡ false → IsTrue (g.view s).is_broken) where
  committed_stays : (it : S) → IsFresh (g.view it) → g.recovers it (g.view it).committed
  committed_stays it fresh = law.stays it (whole_open (g.view it) (shut_is_broken it) fresh.sound)

  -- what is found is what a crash may leave
  pub found_leaves : (it : S) → IsFresh (g.view it) → (mid last : Database) → mid.trees ≡ (g.view it).trees → last ≡ mid → StoreLeaves g it (state_in last.trees)
  found_leaves it fresh mid last same kept = ((g.view it).committed, committed_stays it fresh, ap (λ (d : Database). state_in d.trees) kept ∙ ap state_in (same ∙ fresh.clean))

  -- a connection that found no store leaves what was there
  pub lost_leaves : (it now : S) (h : Held S) → IsFresh (g.view it) → IsAtRest (held.state g h) → (held.state g h).now.trees ≡ (g.view it).trees → ((db : Trees) → g.recovers now db → g.recovers h.store db)
      → (x : StoreState) → StoreLeaves g now x → StoreLeaves g it x
  lost_leaves it now h fresh rest same leaves x (db, may, is) =
      let last : db ≡ (g.view it).committed = law.settled h.store db rest.is_open (leaves db may) ∙ sym (ap (λ (d : Database). d.trees) rest.settled) ∙ same ∙ fresh.clean in
      (db, subst (g.recovers it) (sym last) (committed_stays it fresh), is)
