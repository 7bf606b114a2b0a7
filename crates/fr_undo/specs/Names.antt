-- The name of each fault, which is how it is displayed.
use Rattle.std.specs.Prelude.{ℕ, List, codes}
use Rattle.fr_undo.specs.declared.fault.StoreFault.{StoreFault}
use Rattle.fr_undo.specs.declared.fault.StoreFault.TheVariants.{Device, Full, Failed, Memory, NotAfter, BelowFloor, AboveApplied}

abbrev pub store_fault_name : StoreFault → List ℕ
store_fault_name Device = codes "Device"
store_fault_name Full = codes "Full"
store_fault_name Failed = codes "Failed"
store_fault_name Memory = codes "Memory"
store_fault_name NotAfter = codes "NotAfter"
store_fault_name BelowFloor = codes "BelowFloor"
store_fault_name AboveApplied = codes "AboveApplied"
