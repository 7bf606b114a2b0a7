-- What the operations of a script do to a store, and the lines that they print.
use Rattle.std.specs.Prelude.{ℕ, List, [], ◌∷◌, ◌++◌, codes, decimal, nat_lt, nat_le, if◌then◌else◌, Option, None, Some}
use Rattle.std.specs.FinMap as map
use Rattle.hex.specs.Hex.{encode_lower}
use Rattle.fr_mutation.specs.declared.mutation.Mutation.{Mutation}
use Rattle.fr_mutation.specs.declared.fault.BatchFault.{BatchFault}
use Rattle.fr_mutation.specs.Limits.{batch_fault}
use Rattle.fr_mutation.specs.Names.{batch_fault_name}
use Rattle.fr_undo.specs.declared.fault.StoreFault.{StoreFault}
use Rattle.fr_undo.specs.declared.fault.StoreFault.TheVariants.{Device, Full, Failed, Memory, NotAfter, BelowFloor, AboveApplied}
use Rattle.fr_undo.specs.Names.{store_fault_name}
use Rattle.fr_undo.specs.State.{StoreState, fresh}
use Rattle.fr_undo.specs.Undo.{extended, undone, forgotten, advanced}
use Rattle.fr_cli_apply.specs.declared.script.Operation.{Operation}
use Rattle.fr_cli_apply.specs.declared.script.Operation.TheVariants.{Apply, Undo, Forget, Advance}

-- an operation is done and leaves a state, or is refused by a name and leaves all as it was
pub data Outcome : Type 0 where
  done : StoreState → Outcome
  refused : List ℕ → Outcome

-- a version that is applied already is refused
abbrev pub if_after : StoreState → ℕ → StoreState → Outcome
if_after s version new = if nat_le version s.applied then refused (codes "NotAfter") else done new

-- a batch is refused by the first limit that it breaks, and only then by its version
abbrev pub apply_outcome : StoreState → ℕ → List Mutation → Option BatchFault → Outcome
apply_outcome s version batch (Some fault) = refused (batch_fault_name fault)
apply_outcome s version batch None = if_after s version (extended s version batch)

-- what becomes of an operation on a store in this state
abbrev pub outcome_of : StoreState → Operation → Outcome
outcome_of s (Apply version batch) = apply_outcome s version batch (batch_fault batch)
outcome_of s (Undo to) = if nat_lt to s.floor then refused (codes "BelowFloor") else done (undone s to)
outcome_of s (Forget through) = if nat_lt s.applied through then refused (codes "AboveApplied") else done (forgotten s through)
outcome_of s (Advance version) = if_after s version (advanced s version)

-- the name of a refusal, if there is one
abbrev pub name_in : Outcome → Option (List ℕ)
name_in (done new) = None
name_in (refused name) = Some name

-- the name of a fault that is a refusal
abbrev pub name_of : StoreFault → Option (List ℕ)
name_of Device = None
name_of Full = None
name_of Failed = None
name_of Memory = None
name_of NotAfter = Some (store_fault_name NotAfter)
name_of BelowFloor = Some (store_fault_name BelowFloor)
name_of AboveApplied = Some (store_fault_name AboveApplied)

abbrev pub state_after : StoreState → Outcome → StoreState
state_after s (done new) = new
state_after s (refused name) = s

-- the version applied, the floor and the number of undo rows
abbrev pub ok_line : StoreState → List ℕ
ok_line s =
    codes "ok " ++ (decimal s.applied ++ (codes " floor " ++ (decimal s.floor ++ (codes " undo " ++ (decimal (map.len s.undo) ++ codes "\n")))))

abbrev pub refused_line : List ℕ → List ℕ
refused_line name = codes "refused " ++ (name ++ codes "\n")

abbrev pub line_of : Outcome → List ℕ
line_of (done new) = ok_line new
line_of (refused name) = refused_line name

-- bytes in lower case hex, `-` if there are none
abbrev pub hex_text : List ℕ → List ℕ
hex_text [] = codes "-"
hex_text (b ∷ bs) = encode_lower (b ∷ bs)

-- a key and its value
abbrev pub row_line : List ℕ × List ℕ → List ℕ
row_line row = hex_text row.0 ++ (codes " " ++ (hex_text row.1 ++ codes "\n"))

abbrev pub row_lines : List (List ℕ × List ℕ) → List ℕ
row_lines [] = []
row_lines (row ∷ rows) = row_line row ++ row_lines rows

-- the lines of operations on a store in this state, and then its rows by key
abbrev pub lines_from : StoreState → List Operation → List ℕ
lines_from s [] = row_lines (map.entries s.contents)
lines_from s (o ∷ os) = line_of (outcome_of s o) ++ lines_from (state_after s (outcome_of s o)) os

-- the state that operations leave of a store in this state
abbrev pub left_by : StoreState → List Operation → StoreState
left_by s [] = s
left_by s (o ∷ os) = left_by (state_after s (outcome_of s o)) os

-- the lines of a script, on an empty store
abbrev pub lines_of : List Operation → List ℕ
lines_of script = lines_from fresh script
