-- What a fault left in flight, and what a crash may leave of two files in turn.
use Rattle.std.specs.Prelude.{◌≡◌, ◌⊎◌, ℕ, ◌+◌, ◌<◌, ◌^◌, Bool, true, false, List, [], ◌∷◌, ◌++◌, length, get_or, drop, Option, None, Some, ⊤}
use Rattle.fr_record.specs.Disk.{Disk, MayLeave, IsDurable}
use Rattle.fr_segment.specs.declared.health.Health.{Health}
use Rattle.fr_segment.specs.declared.health.Health.TheVariants.{Works, Failed, Appending, Replacing}
use Rattle.fr_segment.specs.File.{Group, AreShort, IsLeft, IsAtRest}
use Rattle.fr_segment.specs.State.{SegmentFile}
use Rattle.fr_segment.specs.Table.{groups_in}
use Rattle.fr_segment.specs.Turns.{IsHeaded, IsOlder, own_records}

-- the group that these bytes are, behind a gate
unfoldable pub group_of : List ℕ → Group
group_of bytes = get_or (groups_in 1 (1 ∷ 1 ∷ bytes)) 0 []

-- whether a device failed in a call, and the files were not opened again since
abbrev pub has_failed : Health → Bool
has_failed Works = false
has_failed Failed = true
has_failed (Appending put) = true
has_failed (Replacing put) = true

-- after a fault of a call that puts nothing
abbrev pub failed_now : Health → Health
failed_now Works = Failed
failed_now Failed = Failed
failed_now (Appending put) = Appending put
failed_now (Replacing put) = Replacing put

-- the records to which the call would have led that met the fault
abbrev pub owed_by : List (List ℕ) → Health → Option (List (List ℕ))
owed_by records Works = None
owed_by records Failed = None
owed_by records (Appending put) = Some (records ++ group_of put.value.items)
owed_by records (Replacing put) = Some (drop 1 (group_of put.value.items))

-- the one group of the file of the next number
pub record IsNext (number : ℕ) (identity : List ℕ) (g : Group) : Type 0 where
  pub small : number + 1 < 2 ^ 64
  pub short : AreShort (g ∷ [])
  pub headed : IsHeaded (number + 1) identity (g ∷ [])

-- the group in flight is one that the call could put
abbrev pub IsFit : ℕ → List ℕ → List Group → Health → Type 0
IsFit number identity groups Works = ⊤
IsFit number identity groups Failed = ⊤
IsFit number identity groups (Appending put) = AreShort (groups ++ group_of put.value.items ∷ [])
IsFit number identity groups (Replacing put) = IsNext number identity (group_of put.value.items)

-- what a crash may leave of the current file: its groups at rest, or one in flight behind them
abbrev pub IsCurrentLeft : List Group → Health → List ℕ → Type 0
IsCurrentLeft groups Works left = IsAtRest groups left
IsCurrentLeft groups Failed left = IsAtRest groups left
IsCurrentLeft groups (Appending put) left = IsLeft groups (group_of put.value.items) left
IsCurrentLeft groups (Replacing put) left = IsAtRest groups left

-- what it may leave of the other one: an older file, or the next one in flight
abbrev pub IsOtherLeft : ℕ → List ℕ → Health → List ℕ → Type 0
IsOtherLeft number identity Works left = IsOlder number identity left
IsOtherLeft number identity Failed left = IsOlder number identity left
IsOtherLeft number identity (Appending put) left = IsOlder number identity left
IsOtherLeft number identity (Replacing put) left = IsOlder number identity left ⊎ IsLeft [] (group_of put.value.items) left

-- what is so of two files in turn between calls
pub record AreInTurn {D : Type 0} (disk : D → Disk) (current : SegmentFile D) (other : D) (number : ℕ) (identity : List ℕ) (health : Health) : Type 0 where
  pub small : number < 2 ^ 64
  pub brief : length identity + 19 < 2 ^ 32
  pub headed : IsHeaded number identity current.groups
  pub fit : IsFit number identity current.groups health
  pub works : has_failed health ≡ false → current.is_failed ≡ false
  pub durable : has_failed health ≡ false → IsDurable (disk other)
  pub current_left : (left : List ℕ) → MayLeave (disk current.device) left → IsCurrentLeft current.groups health left
  pub other_left : (left : List ℕ) → MayLeave (disk other) left → IsOtherLeft number identity health left
