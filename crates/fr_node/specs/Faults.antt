-- What a fault of a node is to its process.
use Rattle.fr_base.specs.declared.node.NodeFault.{NodeFault}
use Rattle.fr_base.specs.declared.node.NodeFault.TheVariants.{Device, Full, Failed, Memory, Broken}
use Rattle.fr_node.specs.declared.fault.TurnRefusal.TheVariants as refusal
use Rattle.fr_node.specs.declared.fault.Crash.TheVariants as crash
use Rattle.fr_node.specs.declared.fault.NodeTurnFault.{NodeTurnFault}
use Rattle.fr_node.specs.declared.fault.NodeTurnFault.TheVariants as fault

-- there is no memory, so that it cannot go on
abbrev pub no_memory : NodeTurnFault
no_memory = fault.Crashed crash.Memory

-- a file that has no room refuses the turn, and by any other fault the node cannot go on
abbrev pub of_node : NodeFault → NodeTurnFault
of_node Device = fault.Crashed crash.Device
of_node Full = fault.Refused refusal.Full
of_node Failed = fault.Crashed crash.Device
of_node Memory = no_memory
of_node Broken = fault.Crashed crash.Broken
