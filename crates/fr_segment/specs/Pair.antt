-- Each moment of a run of calls of two devices.
use Rattle.std.specs.Prelude.{◌≡◌, ◌⊎◌, List, [], ◌∷◌, ℕ}
use Rattle.fr_record.specs.Disk.{Disk, MayLeave}

module _ {D : Type 0} (Led : D → D → Type 0) (disk : D → Disk) where
  -- one call of one of the two devices; or none, and the two are named in the other order
  abbrev pub IsCall : D × D → D × D → Type 0
  IsCall before after = (Led before.0 after.0 × (after.1 ≡ before.1)) ⊎ (Led before.1 after.1 × (after.0 ≡ before.0)) ⊎ (after ≡ (before.1, before.0))

  module _ (Q : List ℕ → List ℕ → Type 0) where
    -- whatever a crash leaves of both at this moment has Q
    abbrev pub LeavesBoth : D × D → Type 0
    LeavesBoth both = (a b : List ℕ) → MayLeave (disk both.0) a → MayLeave (disk both.1) b → Q a b

    -- One call after another leads from the first two to the last, over these between them (the latest first, the first
    -- ones included), and whatever a crash leaves of both at any of them has Q.
    abbrev pub PairRun : D × D → List (D × D) → D × D → Type 0
    PairRun first [] last = (last ≡ first) × LeavesBoth first
    PairRun first (before ∷ earlier) last = PairRun first earlier before × IsCall before last × LeavesBoth last

    -- a crash at any moment from the first two to the last leaves only what has Q
    abbrev pub PairThroughout : D × D → D × D → Type 0
    PairThroughout first last = (moments : List (D × D)) × PairRun first moments last
