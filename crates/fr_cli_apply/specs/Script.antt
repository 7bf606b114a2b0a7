-- The script of `apply` that an input is: JSON text with exactly the members named here, in any order.
use Rattle.std.specs.Prelude.{ℕ, List, codes, if◌then◌else◌, Option, None, option_map, option_and_then}
use Rattle.serde_json.specs.Data.{Data}
use Rattle.serde_json.specs.Find.{as_array}
use Rattle.fr_base.specs.Bytes.{bytes_eq}
use Rattle.fr_cli_apply.specs.declared.script.Operation.{Operation}
use Rattle.fr_cli_apply.specs.declared.script.Operation.TheVariants.{Apply, Undo, Forget, Advance}
use Rattle.fr_cli_json.specs.Json.{data_of, only, one_member, version_at, version_of, each_of}
use Rattle.fr_cli_json.specs.Mutations.{batch_of}

abbrev pub apply_of : Data → Option Operation
apply_of fields =
    option_and_then (λ version. option_map (Apply version) (option_and_then batch_of (only 2 (codes "batch") fields)))
    (option_and_then version_of (only 2 (codes "version") fields))

-- the operation of a name, with its fields
abbrev pub operation_named : List ℕ → Data → Option Operation
operation_named name fields =
    if bytes_eq name (codes "apply") then apply_of fields
    else if bytes_eq name (codes "undo") then option_map Undo (version_at (codes "to") fields)
    else if bytes_eq name (codes "forget") then option_map Forget (version_at (codes "through") fields)
    else if bytes_eq name (codes "advance") then option_map Advance (version_at (codes "version") fields)
    else None

-- an object of one member, which names the operation
abbrev pub operation_of : Data → Option Operation
operation_of d = option_and_then (λ m. operation_named m.0 m.1) (one_member d)

-- an object of the member `ops` alone, the list of the operations
abbrev pub script_from : Data → Option (List Operation)
script_from d = option_and_then (each_of operation_of) (option_and_then as_array (only 1 (codes "ops") d))

-- the script that an input is, or None if it is none
abbrev pub script_of : List ℕ → Option (List Operation)
script_of input = option_and_then script_from (data_of input)
