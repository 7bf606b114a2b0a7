-- How many bytes groups take.
use Rattle.std.specs.Prelude.{ℕ, ◌+◌, List, [], ◌∷◌, length}
use Rattle.fr_segment.specs.File.{Group, body}

-- what a group takes of a file: its gate, its length, its body and two checksums; a group with no record is not written
abbrev pub group_size : Group → ℕ
group_size [] = 0
group_size (r ∷ rs) = length (body (r ∷ rs)) + 14

-- what a file takes that begins with a header of so many bytes, and these records in the same group
abbrev pub begun_size : ℕ → Group → ℕ
begun_size front g = front + length (body g) + 14
