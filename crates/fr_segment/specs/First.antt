-- What two files begin with, and which of them is current.
use Rattle.std.specs.Prelude.{◌≡◌, ℕ, ◌<◌, ⊤}
use Rattle.fr_segment.specs.declared.first.First.{First}
use Rattle.fr_segment.specs.declared.first.First.TheVariants.{Missing, Closed, File}
use Rattle.fr_segment.specs.declared.first.Turn.{Turn}
use Rattle.fr_segment.specs.declared.first.Turn.TheVariants.{Former, Latter}

-- the file beside one of this number is older
abbrev pub IsBelow : ℕ → First → Type 0
IsBelow number Missing = ⊥
IsBelow number Closed = ⊤
IsBelow number (File lower) = lower < number

-- which of two files is current, and its number
abbrev pub IsTurn : First → First → Turn → Type 0
IsTurn former latter (Former number) = (former ≡ File number) × IsBelow number latter
IsTurn former latter (Latter number) = (latter ≡ File number) × IsBelow number former

-- no file begins there
abbrev pub IsVacant : First → Type 0
IsVacant Missing = ⊤
IsVacant Closed = ⊤
IsVacant (File number) = ⊥
