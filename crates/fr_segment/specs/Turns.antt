-- Two files in turn: what the bytes of both stand for.
use Rattle.std.specs.Prelude.{◌≡◌, ◌⊎◌, ℕ, ◌+◌, ◌<◌, ◌^◌, List, ◌∷◌, ◌++◌, length, get_or, drop}
use Rattle.std.specs.Int.{w32, to_be_bytes}
use Rattle.fr_segment.specs.File.{Group, block, StandsFor, IsClosedAt, records_of_all}
use Rattle.fr_segment.specs.Header.{header}

-- the groups of the file of this number: the first begins with the header
pub record IsHeaded (number : ℕ) (identity : List ℕ) (groups : List Group) : Type 0 where
  pub first : Group
  pub others : List Group
  pub split : groups ≡ (header number identity ∷ first) ∷ others

-- the records of a file, without its header
abbrev pub own_records : List Group → List (List ℕ)
own_records groups = drop 1 (records_of_all groups)

-- the body of a group whose first record is this one, and what follows that record
abbrev pub led_by : List ℕ → List ℕ → List ℕ
led_by first more = to_be_bytes w32 (length first) ++ (first ++ more)

-- a file whose gate is not closed, whose first block is whole and begins with the header, whatever follows
pub record BeginsWith (number : ℕ) (identity : List ℕ) (file : List ℕ) : Type 0 where
  pub more : List ℕ
  pub rest : List ℕ
  pub small : number < 2 ^ 64
  pub not_closed : 0 < get_or file 0 0 + get_or file 1 0
  pub short : length (led_by (header number identity) more) < 2 ^ 32
  pub split : drop 2 file ≡ block 0 (led_by (header number identity) more) ++ rest

-- a file whose first gate is closed, so that it holds nothing
abbrev pub HoldsNothing : List ℕ → Type 0
HoldsNothing file = (1 < length file) × IsClosedAt file 0

-- a device on which no file is begun: it has no whole gate, or a closed one
abbrev pub IsBlank : List ℕ → Type 0
IsBlank file = (length file < 2) ⊎ HoldsNothing file

-- the file that is not current: it holds nothing, or begins with the header of a lower number
abbrev pub IsOlder : ℕ → List ℕ → List ℕ → Type 0
IsOlder number identity file = HoldsNothing file ⊎ ((lower : ℕ) × (lower < number) × BeginsWith lower identity file)

-- the first file is current and stands for these groups, and the second is older
pub record AreTurns (number : ℕ) (identity : List ℕ) (groups : List Group) (current other : List ℕ) : Type 0 where
  pub small : number < 2 ^ 64
  pub headed : IsHeaded number identity groups
  pub stands : StandsFor current groups
  pub older : IsOlder number identity other

-- two files, of which either may be current, stand for the records of the current one
pub record PairStandsFor (identity : List ℕ) (records : List (List ℕ)) (first second : List ℕ) : Type 0 where
  pub number : ℕ
  pub groups : List Group
  pub turns : AreTurns number identity groups first second ⊎ AreTurns number identity groups second first
  pub own : records ≡ own_records groups

-- two files stand for one list of records at most
abbrev pub OnePair : Type 0
OnePair =
    (identity : List ℕ) (a b : List (List ℕ)) (first second : List ℕ)
    → PairStandsFor identity a first second → PairStandsFor identity b first second → b ≡ a

-- a file that neither holds nothing nor begins with a header of this owner
abbrev pub IsForeign : List ℕ → List ℕ → Type 0
IsForeign identity file = (HoldsNothing file → ⊥) × ((number : ℕ) → BeginsWith number identity file → ⊥)
