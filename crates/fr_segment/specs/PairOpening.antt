-- What an opening makes of the two devices that it is given.
use Rattle.std.specs.Prelude.{◌≡◌, ◌⊎◌, ℕ, ◌<◌, ◌^◌, List, Some}
use Rattle.fr_record.specs.Disk.{Disk}
use Rattle.fr_segment.specs.declared.health.Health.{Health}
use Rattle.fr_segment.specs.File.{Group}
use Rattle.fr_segment.specs.Health.{owed_by, IsFit, IsCurrentLeft, IsOtherLeft}
use Rattle.fr_segment.specs.Pair.{LeavesBoth, PairThroughout}
use Rattle.fr_segment.specs.Turns.{IsHeaded, own_records}
use Rattle.fr_segment.specs.Way.{HasRecords}

-- what a crash may leave of two files, of which either may be the current one with this number and these groups, at rest
-- or with a call in flight
abbrev pub AreLeft : ℕ → List ℕ → List Group → Health → List ℕ → List ℕ → Type 0
AreLeft number identity groups health a b =
    (IsCurrentLeft groups health a × IsOtherLeft number identity health b) ⊎ (IsCurrentLeft groups health b × IsOtherLeft number identity health a)

-- what a crash leaves of two files in turn stands for the records before the call in flight, or for those to which it was
-- to lead
abbrev pub PairWholeOrNot : Type 0
PairWholeOrNot =
    (number : ℕ) (identity : List ℕ) (groups : List Group) (health : Health) (a b : List ℕ) → number < 2 ^ 64 → IsHeaded number identity groups → IsFit number identity groups health
    → AreLeft number identity groups health a b → HasRecords identity (λ rs. (rs ≡ own_records groups) ⊎ (owed_by (own_records groups) health ≡ Some rs)) a b

module _ {D : Type 0} (Led : D → D → Type 0) (disk : D → Disk) where
  -- calls led from the first two devices to the last, and whatever a crash may have left before them, two files in turn of
  -- any owner, at rest or with a call in flight, a crash at any moment of them leaves it
  abbrev pub IsPairOpening : D × D → D × D → Type 0
  IsPairOpening first last =
      (number : ℕ) (identity : List ℕ) (groups : List Group) (health : Health) → number < 2 ^ 64 → IsHeaded number identity groups → IsFit number identity groups health
      → LeavesBoth Led disk (AreLeft number identity groups health) first → PairThroughout Led disk (AreLeft number identity groups health) first last

  -- the devices went with a refusal: such calls led to where they were
  abbrev pub HavePairGone : D × D → Type 0
  HavePairGone first = (last : D × D) × IsPairOpening first last
