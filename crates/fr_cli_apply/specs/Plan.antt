-- What is run of a script: of a batch that breaks a limit only the limit is kept.
use Rattle.std.specs.Prelude.{ℕ, List, [], ◌∷◌, ◌++◌, codes, nat_lt, if◌then◌else◌, Option, None, Some, option_map, option_and_then}
use Rattle.std.specs.FinMap as map
use Rattle.serde_json.specs.Data.{Data}
use Rattle.serde_json.specs.Find.{as_array}
use Rattle.fr_mutation.specs.declared.mutation.Mutation.{Mutation}
use Rattle.fr_mutation.specs.declared.fault.BatchFault.{BatchFault}
use Rattle.fr_mutation.specs.Limits.{batch_fault}
use Rattle.fr_mutation.specs.Names.{batch_fault_name}
use Rattle.fr_undo.specs.State.{StoreState}
use Rattle.fr_undo.specs.Undo.{extended, undone, forgotten, advanced}
use Rattle.fr_cli_apply.specs.declared.script.Operation.{Operation}
use Rattle.fr_cli_apply.specs.declared.script.Operation.TheVariants.{Apply, Undo, Forget, Advance}
use Rattle.fr_cli_apply.specs.declared.plan.Planned.{Planned}
use Rattle.fr_cli_apply.specs.declared.plan.Planned.TheVariants as planned
use Rattle.fr_cli_json.specs.Json.{data_of, only, each_of}
use Rattle.fr_cli_apply.specs.Script.{operation_of}
use Rattle.fr_cli_apply.specs.Lines.{Outcome, done, refused, if_after, line_of, state_after, row_lines}

abbrev pub plan_batch : ℕ → List Mutation → Option BatchFault → Planned
plan_batch version batch (Some fault) = planned.Beyond fault
plan_batch version batch None = planned.Apply version batch

-- an operation as it is run
abbrev pub plan : Operation → Planned
plan (Apply version batch) = plan_batch version batch (batch_fault batch)
plan (Undo to) = planned.Undo to
plan (Forget through) = planned.Forget through
plan (Advance version) = planned.Advance version

abbrev pub planned_of : Data → Option Planned
planned_of d = option_map plan (operation_of d)

abbrev pub each_planned_of : Data → Option (List Planned)
each_planned_of d = option_and_then (each_of planned_of) (as_array d)

-- the operations of a script, as they are run
abbrev pub plan_from : Data → Option (List Planned)
plan_from d = option_and_then (each_of planned_of) (option_and_then as_array (only 1 (codes "ops") d))

abbrev pub plan_of : List ℕ → Option (List Planned)
plan_of input = option_and_then plan_from (data_of input)

-- what becomes of it
abbrev pub plan_outcome : StoreState → Planned → Outcome
plan_outcome s (planned.Apply version batch) = if_after s version (extended s version batch)
plan_outcome s (planned.Beyond fault) = refused (batch_fault_name fault)
plan_outcome s (planned.Undo to) = if nat_lt to s.floor then refused (codes "BelowFloor") else done (undone s to)
plan_outcome s (planned.Forget through) = if nat_lt s.applied through then refused (codes "AboveApplied") else done (forgotten s through)
plan_outcome s (planned.Advance version) = if_after s version (advanced s version)

-- the state that it all leaves of a store in this state
abbrev pub plan_left : StoreState → List Planned → StoreState
plan_left s [] = s
plan_left s (p ∷ ps) = plan_left (state_after s (plan_outcome s p)) ps

-- the lines of it all, on a store in this state
abbrev pub plan_lines : StoreState → List Planned → List ℕ
plan_lines s [] = row_lines (map.entries s.contents)
plan_lines s (p ∷ ps) = line_of (plan_outcome s p) ++ plan_lines (state_after s (plan_outcome s p)) ps
