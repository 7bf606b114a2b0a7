-- Files that hold what a crash left of others.
use Rattle.std.specs.Prelude.{false, IsTrue}
use Rattle.sqlite_disk.specs.declared.Disk.{Ghosts}
use Rattle.sqlite_disk.specs.declared.Files.{Files}
use Rattle.sqlite_store.specs.declared.store.FileStore.{FileStore}
use Rattle.sqlite_store.specs.FileStore.{state, view, recovers}
use Rattle.sqlite.specs.Held.{AreDatabases}
use Rattle.sqlite.specs.Files.{image_of, over_files}
use Rattle.fr_undo.specs.State.{StoreState}
use Rattle.fr_undo.specs.Calls.{LeftAsIs}
use Rattle.fr_sql_store.specs.Tables.{Seen, StoreLeaves, MayLeave, state_of}
use Rattle.fr_sql_store.specs.Files.{HoldStore}

-- what every connection keeps of its tables in files: their trees have numbers, and whatever a crash leaves of them is a database
pub record IsKept {D : Type 0} {g : Ghosts D} (it : FileStore D g) : Type 0 where
  pub numbered : IsTrue (view it).is_numbered
  pub sound : AreDatabases (recovers it)

-- the files hold a store in a state that a crash might leave of the first ones
abbrev pub FoundLaw : {D E : Type 0} → Ghosts D → Ghosts E → Type 0
FoundLaw {D} {E} g h =
    (it : FileStore D g) (files : Files E) → IsKept it → (state it).may_leave (image_of h files)
    → ∥ ((x : StoreState) × StoreLeaves over_files it x × HoldStore h files x) ∥₁

-- if a crash leaves the store as it is, as it does of each that works and of which no call is under way, they hold what
-- it shows
abbrev pub RestartLaw : {D E : Type 0} → Ghosts D → Ghosts E → Type 0
RestartLaw {D} {E} g h =
    (store : Seen (FileStore D g)) (files : Files E) → IsKept store.conn.store
    → LeftAsIs false (state_of over_files store) (MayLeave over_files store)
    → (state store.conn.store).may_leave (image_of h files)
    → ∥ HoldStore h files (state_of over_files store) ∥₁
