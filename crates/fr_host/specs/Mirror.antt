-- A disk that is read once.
use Rattle.sqlite_disk.specs.declared.Disk.{Ghosts}
use Rattle.fr_host.specs.declared.mirror.Mirror.{Mirror}

-- the disk below, to which all writes go
abbrev pub below_of : {D : Type 0} {g : Ghosts D} → Mirror D g → D
below_of m = m.below
