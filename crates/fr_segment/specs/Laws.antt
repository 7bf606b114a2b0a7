-- What every file of groups keeps.
use Rattle.std.specs.Prelude.{◌≡◌, ◌⊎◌, ℕ, zero, suc, ◌+◌, ◌<◌, ◌≤◌, List, [], ◌∷◌, ◌++◌, length, All}
use Rattle.fr_segment.specs.Crc.{crc}
use Rattle.fr_segment.specs.File.{Group, AreShort, groups_from, StandsFor, IsLeft, IsAtRest}

-- each is a byte
abbrev pub AreBytes : List ℕ → Type 0
AreBytes bytes = All (λ b. b < 256) bytes

-- the second list has the length of the first, and differs from it at this place alone
abbrev pub IsOneOff : List ℕ → List ℕ → ℕ → Type 0
IsOneOff [] now at = ⊥
IsOneOff (x ∷ xs) [] at = ⊥
IsOneOff (x ∷ xs) (y ∷ ys) zero = (x ≡ y → ⊥) × (ys ≡ xs)
IsOneOff (x ∷ xs) (y ∷ ys) (suc at) = (y ≡ x) × IsOneOff xs ys at

-- lists of one length that differ in exactly one byte have different checksums
abbrev pub TellsOneByte : Type 0
TellsOneByte = (bytes now : List ℕ) (at : ℕ) → AreBytes bytes → AreBytes now → IsOneOff bytes now at → crc bytes ≡ crc now → ⊥

-- a file stands for one list of groups at most
abbrev pub OneList : Type 0
OneList = (file : List ℕ) (a b : List Group) → StandsFor file a → StandsFor file b → b ≡ a

-- what a crash leaves while a group is in flight stands for the groups before it, or for those with it
abbrev pub WholeOrNot : Type 0
WholeOrNot = (file : List ℕ) (before : List Group) (g : Group) → AreShort (before ++ g ∷ []) → IsLeft before g file → StandsFor file before ⊎ StandsFor file (before ++ g ∷ [])

-- a file at rest stands for its groups
abbrev pub RestStands : Type 0
RestStands = (file : List ℕ) (groups : List Group) → IsAtRest groups file → StandsFor file groups

-- One byte of a file at rest is changed, in the closed gate: the file stands for nothing.
abbrev pub ClosedGateIsTold : Type 0
ClosedGateIsTold =
    (file now : List ℕ) (groups : List Group) (at : ℕ) → IsAtRest groups file → IsOneOff file now at
    → length (groups_from 0 groups) ≤ at → at < length (groups_from 0 groups) + 2 → (others : List Group) → StandsFor now others → ⊥

-- behind the closed gate: the file stands for the same groups
abbrev pub RestIsFree : Type 0
RestIsFree =
    (file now : List ℕ) (groups : List Group) (at : ℕ) → IsAtRest groups file → IsOneOff file now at
    → length (groups_from 0 groups) + 2 ≤ at → StandsFor now groups

-- wherever it is: the file stands for the same groups, or for nothing
abbrev pub OneByteIsTold : Type 0
OneByteIsTold =
    (file now : List ℕ) (groups : List Group) (at : ℕ) → IsAtRest groups file → AreBytes file → AreBytes now → IsOneOff file now at
    → (others : List Group) → StandsFor now others → others ≡ groups
