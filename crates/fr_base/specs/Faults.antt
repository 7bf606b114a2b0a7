-- Faults of nodes.
use Rattle.std.specs.Prelude.{Bool, true, false, Result, Ok, Err}
use Rattle.fr_base.specs.declared.node.NodeFault.{NodeFault}
use Rattle.fr_base.specs.declared.node.NodeFault.TheVariants.{Device, Full, Failed, Memory, Broken}

-- whether a fault is the device's
abbrev pub is_device : NodeFault → Bool
is_device Device = true
is_device Full = false
is_device Failed = false
is_device Memory = false
is_device Broken = false

-- whether a call met a fault of the device
abbrev pub met_device : {T : Type 0} → Result T NodeFault → Bool
met_device (Ok x) = false
met_device (Err fault) = is_device fault
