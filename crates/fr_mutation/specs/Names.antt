-- The names of faults.
use Rattle.std.specs.Prelude.{ℕ, List, codes}
use Rattle.fr_mutation.specs.declared.fault.BatchFault.{BatchFault}
use Rattle.fr_mutation.specs.declared.fault.BatchFault.TheVariants as batch
use Rattle.fr_mutation.specs.declared.codec.fault.DecodeFault.{DecodeFault}
use Rattle.fr_mutation.specs.declared.codec.fault.DecodeFault.TheVariants as decode

abbrev pub batch_fault_name : BatchFault → List ℕ
batch_fault_name batch.KeyTooLong = codes "KeyTooLong"
batch_fault_name batch.ValueTooLong = codes "ValueTooLong"
batch_fault_name batch.Inverted = codes "Inverted"
batch_fault_name batch.TooMany = codes "TooMany"
batch_fault_name batch.Memory = codes "Memory"

abbrev pub decode_fault_name : DecodeFault → List ℕ
decode_fault_name decode.Short = codes "Short"
decode_fault_name decode.UnknownKind = codes "UnknownKind"
decode_fault_name decode.OverLimit = codes "OverLimit"
decode_fault_name decode.Inverted = codes "Inverted"
decode_fault_name decode.Memory = codes "Memory"
decode_fault_name decode.NeedlessFormat = codes "NeedlessFormat"
