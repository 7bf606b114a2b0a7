-- The disk under a device.
use Rattle.sqlite_disk.specs.declared.Disk.{Ghosts}
use Rattle.fr_host.specs.declared.device.DiskDevice.{DiskDevice}

-- the disk below, to which all writes go
abbrev pub below_of : {K : Type 0} {g : Ghosts K} → DiskDevice K g → K
below_of d = d.below
