-- What a fault of a store is to its thread.
use Rattle.fr_undo.specs.declared.fault.StoreFault.{StoreFault}
use Rattle.fr_undo.specs.declared.fault.StoreFault.TheVariants.{Device, Full, Failed, Memory, NotAfter, BelowFloor, AboveApplied}
use Rattle.fr_runtime_threads.specs.declared.fault.TurnFault.{TurnFault}
use Rattle.fr_runtime_threads.specs.declared.fault.TurnFault.TheVariants as turn

-- `Memory` is `Memory`, and every other fault is a store that failed
abbrev pub of_store : StoreFault → TurnFault
of_store Device = turn.Store
of_store Full = turn.Store
of_store Failed = turn.Store
of_store Memory = turn.Memory
of_store NotAfter = turn.Store
of_store BelowFloor = turn.Store
of_store AboveApplied = turn.Store
