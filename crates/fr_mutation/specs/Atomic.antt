-- The atomic operations: what each makes of an old value and a parameter, its name and its byte.
use Rattle.std.specs.Prelude.{ℕ, ◌==◌, Bool, true, false, List, [], ◌∷◌, Option, None, Some, unwrap_or, find, codes, if◌then◌else◌}
use Rattle.std.specs.Option.{option_and_then, option_map_or}
use Rattle.fr_base.specs.Bytes.{bytes_eq}
use Rattle.fr_mutation.specs.Values.{sum_of, and_of, or_of, xor_of, greater_of, smaller_of}
use Rattle.fr_mutation.specs.declared.atomic.AtomicOp.{AtomicOp}
use Rattle.fr_mutation.specs.declared.atomic.AtomicOp.TheVariants as ops

-- the old value, and none if it is the parameter
abbrev pub unless_equal : Option (List ℕ) → List ℕ → Option (List ℕ)
unless_equal old param = option_and_then (λ value. if bytes_eq value param then None else Some value) old

-- the value that a key has afterwards, of its old value and the parameter: none if it is cleared
abbrev pub atomic_value : AtomicOp → Option (List ℕ) → List ℕ → Option (List ℕ)
atomic_value ops.Add old param = Some (sum_of (unwrap_or old []) param)
atomic_value ops.And old param = Some (option_map_or (λ value. and_of value param) old param)
atomic_value ops.Or old param = Some (or_of (unwrap_or old []) param)
atomic_value ops.Xor old param = Some (xor_of (unwrap_or old []) param)
atomic_value ops.Max old param = Some (option_map_or (λ value. greater_of value param) old param)
atomic_value ops.Min old param = Some (option_map_or (λ value. smaller_of value param) old param)
atomic_value ops.CompareAndClear old param = unless_equal old param

-- the name of each operation
abbrev pub op_name : AtomicOp → List ℕ
op_name ops.Add = codes "add"
op_name ops.And = codes "and"
op_name ops.Or = codes "or"
op_name ops.Xor = codes "xor"
op_name ops.Max = codes "max"
op_name ops.Min = codes "min"
op_name ops.CompareAndClear = codes "compare_and_clear"

-- the name of what stands beside the key, as scripts write it
abbrev pub operand_name : AtomicOp → List ℕ
operand_name ops.CompareAndClear = codes "value"
operand_name op = codes "param"

-- the byte of each operation in the bytes of a batch
abbrev pub op_byte : AtomicOp → ℕ
op_byte ops.Add = 3
op_byte ops.And = 4
op_byte ops.Or = 5
op_byte ops.Xor = 6
op_byte ops.Max = 7
op_byte ops.Min = 8
op_byte ops.CompareAndClear = 9

-- whether the operation is the one that may clear its key
abbrev pub is_compare_and_clear_op : AtomicOp → Bool
is_compare_and_clear_op ops.CompareAndClear = true
is_compare_and_clear_op op = false

-- every operation
abbrev pub all_ops : List AtomicOp
all_ops = ops.Add ∷ ops.And ∷ ops.Or ∷ ops.Xor ∷ ops.Max ∷ ops.Min ∷ ops.CompareAndClear ∷ []

-- the operation that has this name
unfoldable pub op_named : List ℕ → Option AtomicOp
op_named name = find (λ op. bytes_eq (op_name op) name) all_ops

-- the operation that has this byte
abbrev pub op_with : ℕ → Option AtomicOp
op_with byte = find (λ op. op_byte op == byte) all_ops
