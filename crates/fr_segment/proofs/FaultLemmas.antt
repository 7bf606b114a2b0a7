-- Which fault is left where others never come.
use Rattle.std.proofs.Common.{◌≡◌, false, refl}
use Rattle.fr_record.specs.declared.fault.RecordFault.{RecordFault}
use Rattle.fr_record.specs.declared.fault.RecordFault.TheVariants.{Device, Full, Failed, Memory, Broken}
use Rattle.fr_record.specs.declared.device_fault.DeviceFault.{DeviceFault}
use Rattle.fr_record.specs.declared.device_fault.DeviceFault.TheVariants as device
use Rattle.fr_record.specs.Fault.{is_device, fault_of}

pub only_memory : (fault : RecordFault) → is_device fault ≡ false → (fault ≡ Full → ⊥) → (fault ≡ Failed → ⊥) → (fault ≡ Broken → ⊥) → fault ≡ Memory
only_memory Device e full failed broken = absurd (cc e)
only_memory Full e full failed broken = absurd (full refl)
only_memory Failed e full failed broken = absurd (failed refl)
only_memory Memory e full failed broken = refl
only_memory Broken e full failed broken = absurd (broken refl)

pub only_full : (fault : DeviceFault) → is_device (fault_of fault) ≡ false → fault ≡ device.Full
only_full device.Device e = absurd (cc e)
only_full device.Full e = refl
