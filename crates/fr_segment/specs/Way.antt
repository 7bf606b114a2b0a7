-- What contracts see of two files in turn, and each moment of the way from one state of them to another.
use Rattle.std.specs.Prelude.{◌≡◌, ℕ, List, []}
use Rattle.fr_record.specs.Disk.{Disk}
use Rattle.fr_segment.specs.declared.health.Health.{Health}
use Rattle.fr_segment.specs.File.{Group}
use Rattle.fr_segment.specs.Pair.{PairThroughout}
use Rattle.fr_segment.specs.Turns.{PairStandsFor}

pub record TurnsFile (D : Type 0) : Type 0 where
  -- the device of the file with the greater number, which holds the records
  pub current : D
  -- the device that the next replacement writes
  pub other : D
  -- the groups of the current file, the header in the first
  pub groups : List Group
  -- the number of the current file
  pub number : ℕ
  -- whose the files are
  pub identity : List ℕ
  -- whether a device failed in a call, and what that call was to put
  pub health : Health

-- two files stand for records that have P
abbrev pub HasRecords : List ℕ → (List (List ℕ) → Type 0) → List ℕ → List ℕ → Type 0
HasRecords identity P first second = (records : List (List ℕ)) × PairStandsFor identity records first second × P records

-- Calls of the two devices led from the first state to the second. A crash at any moment, inside a call too, leaves two
-- files that stand for records with P.
pub record IsWay {D : Type 0} (Led : D → D → Type 0) (disk : D → Disk) (P : List (List ℕ) → Type 0) (f g : TurnsFile D) : Type 0 where
  pub owner : g.identity ≡ f.identity
  pub run : PairThroughout Led disk (HasRecords f.identity P) (f.current, f.other) (g.current, g.other)
