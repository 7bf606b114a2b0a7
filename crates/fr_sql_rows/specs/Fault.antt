-- What an error of SQL is to a store.
use Rattle.sqlite.specs.declared.error.Error.{Error}
use Rattle.sqlite.specs.declared.error.Error.TheVariants.{SqliteFailure}
use Rattle.sqlite.specs.declared.error.ErrorCode.TheVariants.{OutOfMemory, DiskFull, TooBig}
use Rattle.fr_undo.specs.declared.fault.StoreFault.{StoreFault}
use Rattle.fr_undo.specs.declared.fault.StoreFault.TheVariants.{Device, Full, Memory}

-- memory was refused, something has no room or is too big, or else the device failed
abbrev pub fault_in : Error → StoreFault
fault_in (SqliteFailure OutOfMemory) = Memory
fault_in (SqliteFailure DiskFull) = Full
fault_in (SqliteFailure TooBig) = Full
fault_in _ = Device
