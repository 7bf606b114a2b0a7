-- What the bytes of a file of groups stand for.
use Rattle.std.specs.Prelude.{◌≡◌, ◌⊎◌, ℕ, suc, ◌+◌, ◌-◌, ◌<◌, ◌^◌, List, [], ◌∷◌, ◌++◌, length, get_or, take, drop, All}
use Rattle.std.specs.Int.{w32, to_be_bytes}
use Rattle.fr_segment.specs.Crc.{sum_of}

-- a group of records
abbrev pub Group : Type 0
Group = List (List ℕ)

-- the body of a group: for each record its length and its bytes
abbrev pub body : Group → List ℕ
body [] = []
body (r ∷ rs) = to_be_bytes w32 (length r) ++ (r ++ body rs)

-- the checksum of these bytes and the group's number, as four bytes
unfoldable pub seal : ℕ → List ℕ → List ℕ
seal number bytes = to_be_bytes w32 (sum_of number bytes)

-- what stands behind a gate: the length of the body with its checksum, the body, and the body's checksum
unfoldable pub block : ℕ → List ℕ → List ℕ
block number bytes = (to_be_bytes w32 (length bytes) ++ seal number (to_be_bytes w32 (length bytes))) ++ (bytes ++ seal number bytes)

-- an open gate and a group for each group, the first of this number
abbrev pub groups_from : ℕ → List Group → List ℕ
groups_from number [] = []
groups_from number (g ∷ gs) = 1 ∷ 1 ∷ (block number (body g) ++ groups_from (suc number) gs)

-- the body of each group has a length that four bytes spell
abbrev pub AreShort : List Group → Type 0
AreShort gs = All (λ g. length (body g) < 2 ^ 32) gs

-- The bytes begin with a gate that is not closed, and the group. Only the last gate may be another than 01 01: a crash
-- tore it while it was opened.
pub record Begins (number : ℕ) (g : Group) (gs : List Group) (bytes rest : List ℕ) : Type 0 where
  pub first : ℕ
  pub second : ℕ
  pub not_closed : 0 < first + second
  pub whole : ((first ≡ 1) × (second ≡ 1)) ⊎ (gs ≡ [])
  pub short : length (body g) < 2 ^ 32
  pub split : bytes ≡ first ∷ second ∷ (block number (body g) ++ rest)

-- the bytes from a gate on stand for these groups, the first of this number: each group, then a gate 00 00, and anything
abbrev pub StandsFrom : ℕ → List Group → List ℕ → Type 0
StandsFrom number [] bytes = (rest : List ℕ) × (bytes ≡ 0 ∷ 0 ∷ rest)
StandsFrom number (g ∷ gs) bytes = (rest : List ℕ) × Begins number g gs bytes rest × StandsFrom (suc number) gs rest

-- a file stands for groups, the first of which has number 0
abbrev pub StandsFor : List ℕ → List Group → Type 0
StandsFor file groups = StandsFrom 0 groups file

-- what is written behind the closed gate: the group, and a closed gate
abbrev pub behind : ℕ → Group → List ℕ
behind number g = block number (body g) ++ 0 ∷ 0 ∷ []

-- Eight bytes that are written behind a closed gate: the length 0, with a wrong checksum. So no block of the group that
-- would come next stands there, whatever was written there before.
unfoldable pub guard : ℕ → List ℕ
guard number = to_be_bytes w32 0 ++ to_be_bytes w32 (2 ^ 32 - 1 - sum_of number (to_be_bytes w32 0))

-- the bytes begin with no block of this number
abbrev pub BeginsNoBlock : ℕ → List ℕ → Type 0
BeginsNoBlock number bytes = (content rest : List ℕ) → length content < 2 ^ 32 → bytes ≡ block number content ++ rest → ⊥

-- the gate at a place is closed
abbrev pub IsClosedAt : List ℕ → ℕ → Type 0
IsClosedAt file at = (get_or file at 1 ≡ 0) × (get_or file (at + 1) 1 ≡ 0)

-- What a crash leaves while a group is in flight: the groups before it, and then a closed gate and anything, or any two
-- bytes and the whole group behind them. A gate that is torn while it is opened stands before the whole group.
pub record IsLeft (before : List Group) (g : Group) (file : List ℕ) : Type 0 where
  pub long : length (groups_from 0 before) + 1 < length file
  pub front : take (length (groups_from 0 before)) file ≡ groups_from 0 before
  pub gate : IsClosedAt file (length (groups_from 0 before)) ⊎ (take (length (behind (length before) g)) (drop (length (groups_from 0 before) + 2) file) ≡ behind (length before) g)

-- a file that begins with these groups and goes on behind them
pub record IsFront (groups : List Group) (file : List ℕ) : Type 0 where
  pub short : AreShort groups
  pub long : length (groups_from 0 groups) + 1 < length file
  pub front : take (length (groups_from 0 groups)) file ≡ groups_from 0 groups

-- A file at rest, with no group in flight: the groups, each behind a gate 01 01, the gate 00 00, and bytes that begin
-- with no block of the next number.
pub record IsAtRest (groups : List Group) (file : List ℕ) : Type 0 where
  pub rest : List ℕ
  pub split : file ≡ groups_from 0 groups ++ 0 ∷ 0 ∷ rest
  pub short : AreShort groups
  pub guarded : BeginsNoBlock (length groups) rest

-- the groups with one more; a group with no record changes nothing
abbrev pub with_group : List Group → Group → List Group
with_group gs [] = gs
with_group gs (r ∷ rs) = gs ++ (r ∷ rs) ∷ []

-- the records of all groups
abbrev pub records_of_all : List Group → List (List ℕ)
records_of_all [] = []
records_of_all (g ∷ gs) = g ++ records_of_all gs
