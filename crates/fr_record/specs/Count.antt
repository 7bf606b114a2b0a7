-- The count of a device's failures.
use Rattle.std.specs.Prelude.{ℕ, ◌+◌, ◌-◌, ◌^◌, min, Result, Ok, Err}
use Rattle.fr_record.specs.declared.device_fault.DeviceFault.{DeviceFault}
use Rattle.fr_record.specs.declared.device_fault.DeviceFault.TheVariants.{Device, Full}

-- the count after a call: an answer of Device is counted, and at the greatest number the count stays
abbrev pub counted : {T : Type 0} → ℕ → Result T DeviceFault → ℕ
counted n (Ok x) = n
counted n (Err Device) = min (n + 1) (2 ^ 64 - 1)
counted n (Err Full) = n
