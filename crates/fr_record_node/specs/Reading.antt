-- What reading leaves of a device.
use Rattle.fr_record.specs.Disk.{Disk, MayLeave, Stands}
use Rattle.fr_record.specs.Moments.{Throughout}

module _ {D : Type 0} (Led : D → D → Type 0) (disk : D → Disk) where
  -- calls led from the first device to the last that changed nothing, and a crash at any moment of them leaves no more
  -- than it might have left before them
  pub record IsRead (first last : D) : Type 0 where
    pub stands : Stands (disk first) (disk last)
    pub always : Throughout Led disk (MayLeave (disk first)) first last
