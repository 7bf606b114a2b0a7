-- What calls count of their statements that were refused.
use Rattle.std.specs.Prelude.{ℕ}
use Rattle.sqlite_disk.specs.Disk.{MoreFaults}
use Rattle.fr_undo.specs.declared.fault.StoreFault.{StoreFault}
use Rattle.fr_undo.specs.declared.fault.StoreFault.TheVariants.{Device, Full}

-- how many calls were refused a statement for the device, and how many for size or room
pub record Told : Type 0 where
  pub device : ℕ
  pub full : ℕ

abbrev pub none_told : Told
none_told = record { device = 0; full = 0 }

-- a fault of the device, or of size or room, is counted, unless the count is at the top of a `u64`
abbrev pub IsTold : Told → Told → StoreFault → Type 0
IsTold old new Device = MoreFaults old.device new.device
IsTold old new Full = MoreFaults old.full new.full
IsTold old new _ = Unit {0}
