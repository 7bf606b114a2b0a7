-- What an opening makes of the device that it is given.
use Rattle.std.specs.Prelude.{◌≡◌, ℕ, Bool, false, List, ◌∷◌, [], ◌++◌}
use Rattle.fr_record.specs.Disk.{Disk, IsDurable}
use Rattle.fr_record.specs.Moments.{LeavesOnly, Throughout}
use Rattle.fr_segment.specs.File.{Group, AreShort, IsLeft, IsAtRest}

module _ {D : Type 0} (Led : D → D → Type 0) (disk : D → Disk) where
  -- calls led from the first device to the last, and whatever a crash may have left before them, groups with one in
  -- flight or groups at rest, a crash at any moment of them leaves it
  pub record IsOpening (first last : D) : Type 0 where
    pub in_flight : (before : List Group) (g : Group) → AreShort (before ++ g ∷ []) → LeavesOnly Led disk (IsLeft before g) first → Throughout Led disk (IsLeft before g) first last
    pub at_rest : (before : List Group) → LeavesOnly Led disk (IsAtRest before) first → Throughout Led disk (IsAtRest before) first last

  -- the device went with a refusal: such calls led to where it was, and all of it was synced if no call of it failed
  abbrev pub HasGone : Bool → D → Type 0
  HasGone is_device device = (last : D) × IsOpening device last × (is_device ≡ false → IsDurable (disk last))
