-- What was read of a file.
use Rattle.std.specs.Prelude.{◌≡◌, ◌⊎◌, ℕ, ◌+◌, ◌<◌, ◌≤◌, List, [], ◌∷◌, ◌++◌, length, get_or, Option, None, Some, ⊤}
use Rattle.fr_record.specs.Disk.{written}
use Rattle.fr_segment.specs.declared.place.Place.{Place}
use Rattle.fr_segment.specs.File.{Group, groups_from, IsClosedAt}
use Rattle.fr_segment.specs.Table.{IsRead, groups_in}

-- bytes of which a torn gate is written anew as 01 01
abbrev pub mended : List ℕ → Option ℕ → List ℕ
mended bytes None = bytes
mended bytes (Some gate) = written bytes gate (1 ∷ 1 ∷ [])

-- a file of this many groups, and its table, once its torn gate is written anew
pub record IsParsed (bytes : List ℕ) (torn : Option ℕ) (table : List Place) (end count : ℕ) : Type 0 where
  pub read : IsRead (mended bytes torn) table end (groups_in count (mended bytes torn))
  pub long : end + 1 < length (mended bytes torn)
  pub closed : IsClosedAt (mended bytes torn) end

-- the last group's gate is torn: it is not closed, and not 01 01
pub record IsTorn (bytes : List ℕ) (gate : ℕ) (groups : List Group) : Type 0 where
  pub before : List Group
  pub last : Group
  pub split : groups ≡ before ++ last ∷ []
  pub place : gate ≡ length (groups_from 0 before)
  pub within : gate + 1 < length bytes
  pub not_closed : 0 < get_or bytes gate 0 + get_or bytes (gate + 1) 0
  pub torn : (get_or bytes gate 0 ≡ 1) × (get_or bytes (gate + 1) 0 ≡ 1) → ⊥

abbrev pub IsTornGate : List ℕ → Option ℕ → List Group → Type 0
IsTornGate bytes None groups = ⊤
IsTornGate bytes (Some gate) groups = IsTorn bytes gate groups
