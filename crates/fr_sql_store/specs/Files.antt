-- What files hold of a store.
use Rattle.std.specs.Prelude.{◌≡◌}
use Rattle.sqlite.specs.Tree.{Trees}
use Rattle.sqlite.specs.Files.{HoldsDatabase, image_of}
use Rattle.sqlite_disk.specs.declared.Disk.{Ghosts}
use Rattle.sqlite_disk.specs.declared.Files.{Files}
use Rattle.fr_undo.specs.State.{StoreState}
use Rattle.fr_sql_store.specs.Tables.{state_in}

-- the files hold the tables of a store in this state
abbrev pub HoldStore : {D : Type 0} → Ghosts D → Files D → StoreState → Type 0
HoldStore g files x = (db : Trees) × HoldsDatabase (image_of g files) db × (x ≡ state_in db)
