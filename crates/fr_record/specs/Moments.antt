-- Each moment of a run of calls.
use Rattle.std.specs.Prelude.{◌≡◌, List, [], ◌∷◌, ℕ}
use Rattle.fr_record.specs.Disk.{Disk, MayLeave}

module _ {D : Type 0} (Led : D → D → Type 0) (disk : D → Disk) (P : List ℕ → Type 0) where
  -- whatever a crash leaves at this moment has P
  abbrev pub LeavesOnly : D → Type 0
  LeavesOnly device = (left : List ℕ) → MayLeave (disk device) left → P left

  -- One call after another leads from the first device to the last, over these between them (the latest first, the
  -- first one included), and whatever a crash leaves at any of them has P.
  abbrev pub Run : D → List D → D → Type 0
  Run first [] last = (last ≡ first) × LeavesOnly first
  Run first (before ∷ earlier) last = Run first earlier before × Led before last × LeavesOnly last

  -- a crash at any moment from the first device to the last leaves only what has P
  abbrev pub Throughout : D → D → Type 0
  Throughout first last = (moments : List D) × Run first moments last
