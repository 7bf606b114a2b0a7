-- What the faults of machines are to their holder.
use Rattle.std.specs.Prelude.{ℕ}
use Rattle.fr_proxy.specs.declared.fault.SubmitFault.{SubmitFault}
use Rattle.fr_proxy.specs.declared.fault.SubmitFault.TheVariants as submit
use Rattle.fr_storage.specs.declared.fault.StorageFault.{StorageFault}
use Rattle.fr_storage.specs.declared.fault.StorageFault.TheVariants as storage
use Rattle.fr_undo.specs.declared.fault.StoreFault.{StoreFault}
use Rattle.fr_undo.specs.declared.fault.StoreFault.TheVariants as store
use Rattle.fr_part.specs.declared.fault.PartFault.{PartFault}
use Rattle.fr_part.specs.declared.fault.PartFault.TheVariants as part

abbrev pub of_submit : SubmitFault → PartFault
of_submit submit.TwoOpen = part.Refused
of_submit submit.Over = part.Refused
of_submit submit.Memory = part.Memory

abbrev pub of_storage : StorageFault → PartFault
of_storage storage.Older = part.Refused
of_storage storage.Stranger = part.Refused
of_storage storage.BelowFloor = part.Refused
of_storage storage.NotMyGeneration = part.Refused
of_storage storage.Hole = part.Refused
of_storage (storage.Store fault) = part.Part
of_storage storage.BadState = part.Refused

abbrev pub of_store : StoreFault → PartFault
of_store store.Device = part.Refused
of_store store.Full = part.Refused
of_store store.Failed = part.Refused
of_store store.Memory = part.Memory
of_store store.NotAfter = part.Refused
of_store store.BelowFloor = part.Refused
of_store store.AboveApplied = part.Refused

-- the status of a fault
abbrev pub status_of : PartFault → ℕ
status_of part.Memory = 1
status_of part.Kind = 4
status_of part.Refused = 5
status_of part.Part = 9

-- out of memory, or another kind of machine does that
abbrev pub IsUnasked : PartFault → Type 0
IsUnasked part.Memory = Unit {0}
IsUnasked part.Kind = Unit {0}
IsUnasked part.Refused = ⊥
IsUnasked part.Part = ⊥
