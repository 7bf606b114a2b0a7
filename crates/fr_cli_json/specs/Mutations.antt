-- The batches of a script: mutations as JSON, with exactly the members named here, in any order.
use Rattle.std.specs.Prelude.{ℕ, List, codes, if◌then◌else◌, Option, option_map, option_and_then}
use Rattle.serde_json.specs.Data.{Data}
use Rattle.serde_json.specs.Find.{as_array}
use Rattle.fr_base.specs.Bytes.{bytes_eq}
use Rattle.fr_mutation.specs.Atomic.{op_named, operand_name}
use Rattle.fr_mutation.specs.declared.atomic.AtomicOp.{AtomicOp}
use Rattle.fr_mutation.specs.declared.mutation.Mutation.{Mutation}
use Rattle.fr_mutation.specs.declared.mutation.Mutation.TheVariants.{Set, Clear, Atomic}
use Rattle.fr_cli_json.specs.Json.{one_member, pair_of, each_of}

-- the key and the operand of an atomic operation
abbrev pub operand_of : AtomicOp → Data → Option (List ℕ × List ℕ)
operand_of op fields = pair_of (codes "key") (operand_name op) fields

-- the mutation of a name, with its fields
abbrev pub mutation_named : List ℕ → Data → Option Mutation
mutation_named name fields =
    if bytes_eq name (codes "set") then option_map (λ p. Set p.0 p.1) (pair_of (codes "key") (codes "value") fields)
    else if bytes_eq name (codes "clear") then option_map (λ p. Clear p.0 p.1) (pair_of (codes "begin") (codes "end") fields)
    else option_and_then (λ op. option_map (λ p. Atomic op p.0 p.1) (operand_of op fields)) (op_named name)

-- an object of one member, which names the mutation
abbrev pub mutation_of : Data → Option Mutation
mutation_of d = option_and_then (λ m. mutation_named m.0 m.1) (one_member d)

-- a batch: the list of its mutations, whether it is within its limits or not
abbrev pub batch_of : Data → Option (List Mutation)
batch_of d = option_and_then (each_of mutation_of) (as_array d)
