-- What a fault of a node is to the thread that made it.
use Rattle.fr_base.specs.declared.node.NodeFault.{NodeFault}
use Rattle.fr_base.specs.declared.node.NodeFault.TheVariants.{Device, Full, Failed, Memory, Broken}
use Rattle.fr_runtime_threads.specs.declared.fault.TurnFault.{TurnFault}
use Rattle.fr_runtime_threads.specs.declared.fault.TurnFault.TheVariants as turn

-- `Memory` is `Memory`, and every other fault is a log that could not be made
abbrev pub of_node : NodeFault → TurnFault
of_node Device = turn.Log
of_node Full = turn.Log
of_node Failed = turn.Log
of_node Memory = turn.Memory
of_node Broken = turn.Log
