-- A group as its caller hands it over, and what is read of one.
use Rattle.std.specs.Prelude.{◌≡◌, ℕ, ◌+◌, ◌<◌, ◌≤◌, ◌^◌, List, ◌++◌, length, take, drop, map, Vec}
use Rattle.std.specs.declared.alloc.Global.{Global}
use Rattle.fr_segment.specs.declared.place.Place.{Place}
use Rattle.fr_segment.specs.File.{Group, body, block}
use Rattle.fr_segment.specs.Table.{places}

-- the records that vectors hold
abbrev pub records_of : List (Vec ℕ Global) → Group
records_of group = map (λ v. v.items) group

-- where they lie when their body begins at a place
abbrev pub places_of : ℕ → List (Vec ℕ Global) → List Place
places_of at group = places at (records_of group)

-- the bytes between two places are the records whose places the table got
pub record AreRecords (bytes : List ℕ) (start at : ℕ) (before after : List Place) : Type 0 where
  pub group : Group
  pub up_to : start + length (body group) ≡ at
  pub spelled : drop start bytes ≡ body group ++ drop at bytes
  pub table : after ≡ before ++ places start group

-- from a place on stands the block of a body of n bytes
pub record IsBlockAt (bytes : List ℕ) (at number n : ℕ) : Type 0 where
  pub within : at + 12 + n ≤ length bytes
  pub short : n < 2 ^ 32
  pub spelled : take (n + 12) (drop at bytes) ≡ block number (take n (drop (at + 8) bytes))
