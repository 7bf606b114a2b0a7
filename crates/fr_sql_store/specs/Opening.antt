-- What files that may hold a store are opened as.
use Rattle.std.specs.Prelude.{◌≡◌, ◌⊎◌, [], ⊤}
use Rattle.sqlite_trees.specs.Tree.{Trees}
use Rattle.sqlite_trees.specs.Objects.{catalog_tree}
use Rattle.fr_undo.specs.State.{StoreState, fresh}
use Rattle.fr_undo.specs.Calls.{IsTrouble}
use Rattle.fr_sql_calls.specs.WorkCalls.{MeetsAll}
use Rattle.fr_sql_store.specs.declared.sql_store.files.opening.OpenFault.{OpenFault}
use Rattle.fr_sql_store.specs.declared.sql_store.files.opening.OpenFault.TheVariants.{NoStore, Fault}
use Rattle.fr_sql_store.specs.Tables.{state_in}

-- a store has the state of the tables, or nothing is applied to it and the database lists nothing
abbrev pub IsHeldOrMade : Trees → StoreState → Type 0
IsHeldOrMade db x = (x ≡ state_in db) ⊎ ((db catalog_tree ≡ []) × (x ≡ fresh))

-- no store is there, or the device, its room or memory is at fault
abbrev pub IsOpenFault : OpenFault → Type 0
IsOpenFault NoStore = ⊤
IsOpenFault (Fault fault) = IsTrouble MeetsAll fault
