-- Where records lie in a file.
use Rattle.std.specs.Prelude.{◌≡◌, ℕ, zero, suc, ◌+◌, ◌<◌, ◌≤◌, Bool, false, List, [], ◌∷◌, length, take, drop, map, All}
use Rattle.std.specs.Int.{w32, from_be_bytes}
use Rattle.fr_record.specs.Disk.{Disk, IsDurable, bytes_at}
use Rattle.fr_segment.specs.declared.place.Place.{Place}
use Rattle.fr_segment.specs.File.{Group, body, groups_from, AreShort, BeginsNoBlock, IsClosedAt, records_of_all}

-- the bytes at each place of a table
abbrev pub records_at : List ℕ → List Place → List (List ℕ)
records_at content table = map (λ p. bytes_at content p.at p.len) table

-- where the records of a group lie whose body begins at a place
abbrev pub places : ℕ → Group → List Place
places at [] = []
places at (r ∷ rs) = record { at = at + 4; len = length r } ∷ places (at + 4 + length r) rs

-- the records of a body, at most so many
unfoldable pub records_in : ℕ → List ℕ → Group
records_in zero bytes = []
records_in (suc n) [] = []
records_in (suc n) (b ∷ bs) =
    take (from_be_bytes w32 (take 4 (b ∷ bs))) (drop 4 (b ∷ bs)) ∷ records_in n (drop (4 + from_be_bytes w32 (take 4 (b ∷ bs))) (b ∷ bs))

-- the first groups of a file, so many
unfoldable pub groups_in : ℕ → List ℕ → List Group
groups_in zero file = []
groups_in (suc n) file =
    records_in (from_be_bytes w32 (take 4 (drop 2 file))) (take (from_be_bytes w32 (take 4 (drop 2 file))) (drop 10 file))
    ∷ groups_in n (drop (14 + from_be_bytes w32 (take 4 (drop 2 file))) file)

-- Bytes of which so many groups are read before a place: the table of their records.
pub record IsRead (bytes : List ℕ) (table : List Place) (at : ℕ) (groups : List Group) : Type 0 where
  pub within : All (λ p. p.at + p.len ≤ at) table
  pub front : take at bytes ≡ groups_from 0 groups
  pub records : records_at bytes table ≡ records_of_all groups
  pub short : AreShort groups
  pub long : at ≤ length bytes

-- the table of a file whose gate stands at its end; while the file is not failed the gate is closed, and all is on the device
pub record IsFile (disk : Disk) (table : List Place) (end : ℕ) (is_failed : Bool) (groups : List Group) : Type 0 where
  pub read : IsRead disk.content table end groups
  pub long : end + 1 < length disk.content
  pub closed : is_failed ≡ false → IsClosedAt disk.content end
  pub durable : is_failed ≡ false → IsDurable disk

-- behind the closed gate at a place lies no group of this number
abbrev pub IsGuarded : List ℕ → ℕ → ℕ → Type 0
IsGuarded content end number = BeginsNoBlock number (drop (end + 2) content)
