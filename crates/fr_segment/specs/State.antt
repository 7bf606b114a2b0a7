-- What contracts see of a file of groups.
use Rattle.std.specs.Prelude.{Bool, List}
use Rattle.fr_segment.specs.File.{Group}

pub record SegmentFile (D : Type 0) : Type 0 where
  -- the device below
  pub device : D
  -- the groups that were acknowledged, or found when the file was opened
  pub groups : List Group
  -- whether the device failed in a call, and the file was not opened again since
  pub is_failed : Bool
