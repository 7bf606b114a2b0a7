-- Why the threads of a cluster came to no journals, by the fault that stopped them: `Memory` is told as that.
use Rattle.fr_base.specs.declared.node.NodeFault.{NodeFault}
use Rattle.fr_undo.specs.declared.fault.StoreFault.{StoreFault}
use Rattle.fr_undo.specs.declared.fault.StoreFault.TheVariants as store
use Rattle.fr_storage.specs.declared.fault.StorageFault.{StorageFault}
use Rattle.fr_storage.specs.declared.fault.StorageFault.TheVariants as storage
use Rattle.fr_runtime.specs.declared.spawn.SpawnFault.{SpawnFault}
use Rattle.fr_runtime.specs.declared.spawn.SpawnFault.TheVariants as spawn
use Rattle.fr_runtime_threads.specs.NodeFaults as thread
use Rattle.fr_runtime_threads.specs.declared.fault.TurnFault.{TurnFault}
use Rattle.fr_runtime_threads.specs.declared.fault.TurnFault.TheVariants as turn
use Rattle.fr_runtime.specs.declared.fault.Unfinished.{Unfinished}
use Rattle.fr_runtime.specs.declared.fault.Unfinished.TheVariants.{Memory, Thread, Rack}
use Rattle.fr_runtime.specs.declared.fault.RunFault.{RunFault}
use Rattle.fr_runtime.specs.declared.fault.RunFault.TheVariants as run

abbrev pub of_spawn : SpawnFault → Unfinished
of_spawn spawn.Memory = Memory
of_spawn spawn.Thread = Thread

abbrev pub of_store : StoreFault → Unfinished
of_store store.Device = Rack
of_store store.Full = Rack
of_store store.Failed = Rack
of_store store.Memory = Memory
of_store store.NotAfter = Rack
of_store store.BelowFloor = Rack
of_store store.AboveApplied = Rack

abbrev pub of_turn : TurnFault → Unfinished
of_turn turn.Memory = Memory
of_turn turn.Store = Rack
of_turn turn.Log = Rack

abbrev pub of_node : NodeFault → Unfinished
of_node fault = of_turn (thread.of_node fault)

abbrev pub of_storage : StorageFault → Unfinished
of_storage storage.Older = Rack
of_storage storage.Stranger = Rack
of_storage storage.BelowFloor = Rack
of_storage storage.NotMyGeneration = Rack
of_storage storage.Hole = Rack
of_storage (storage.Store fault) = of_store fault
of_storage storage.BadState = Rack

-- what the caller of the run is told of it
abbrev pub run_fault : Unfinished → RunFault
run_fault Memory = run.Memory
run_fault Thread = run.Thread
run_fault Rack = run.Rack
