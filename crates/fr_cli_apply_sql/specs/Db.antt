-- A command on a store in files.
use Rattle.std.specs.Prelude.{◌≡◌, ◌⊎◌, ◌++◌, ℕ, List, [], Option, Some, Result, Ok, Err}
use Rattle.std.specs.FinMap as map
use Rattle.sqlite_disk.specs.declared.Disk.{Ghosts}
use Rattle.sqlite_disk.specs.declared.Files.{Files}
use Rattle.fr_undo.specs.State.{StoreState, fresh}
use Rattle.fr_sql_store.specs.Files.{HoldStore}
use Rattle.fr_cli_json.specs.declared.fault.CliFault.{CliFault}
use Rattle.fr_cli_json.specs.declared.fault.CliFault.TheVariants.{Memory}
use Rattle.fr_cli_json.specs.Text.{HasRead}
use Rattle.fr_cli_apply.specs.declared.script.Operation.{Operation}
use Rattle.fr_cli_apply.specs.Script.{script_of}
use Rattle.fr_cli_apply.specs.Lines.{ok_line, row_lines, left_by}
use Rattle.fr_cli_apply_sql.specs.declared.fault.DbFault.{DbFault}
use Rattle.fr_cli_apply_sql.specs.declared.fault.DbFault.TheVariants as db

-- the files hold a store in this state, or the database file is empty and nothing is applied yet
abbrev pub Holds : {D : Type 0} → Ghosts D → Files D → StoreState → Type 0
Holds g files x = HoldStore g files x ⊎ ((g.seen files.db ≡ []) × (x ≡ fresh))

-- the files hold what the script that was read left of a store in this state
abbrev pub Keeps : {D : Type 0} → Ghosts D → StoreState → Option (List ℕ) → Option (List ℕ) → Files D → Type 0
Keeps g x left left_now files = (script : List Operation) × HasRead script_of left left_now (Some script) × ∥ HoldStore g files (left_by x script) ∥₁

-- the state of a store, and its rows by key
abbrev pub show_lines : StoreState → List ℕ
show_lines s = ok_line s ++ row_lines (map.entries s.contents)

-- what a fault is to the reader and the writer of a command: one of files came before or between their calls, as
-- `Memory` does
abbrev pub cli_of : DbFault → CliFault
cli_of (db.Command fault) = fault
cli_of (db.Files fault) = Memory

abbrev pub answer_of : {T : Type 0} → Result T DbFault → Result ℕ CliFault
answer_of (Ok done) = Ok 0
answer_of (Err fault) = Err (cli_of fault)
