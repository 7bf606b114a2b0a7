-- Lists of deliveries in which each ballot writes one value, made from its own read majority's greatest pair.
use Rattle.std.specs.Prelude.{◌≡◌, ◌≢◌, ℕ, List, [], ◌∷◌, All, Contains}
use Rattle.fr_register.specs.CellState.{CellState}
use Rattle.fr_register.specs.Cell.{IsWithinPromise}
use Rattle.fr_register.specs.Poll.{Stamped}
use Rattle.fr_register.specs.Tally.{progress_of}
use Rattle.fr_register.specs.Heard.{Heard, read_tally}
use Rattle.fr_register.specs.History.{Turn, IsHistory, promise_turn, written_turn}
use Rattle.fr_register.specs.declared.ask.CellAsk.{CellAsk}
use Rattle.fr_register.specs.declared.ask.CellAsk.TheVariants.{Read, Write}
use Rattle.fr_register.specs.declared.ask.CellTell.TheVariants.{Promise, Written}
use Rattle.fr_register.specs.declared.poll.Progress.TheVariants.{Majority}

-- how a ballot came by the value that it writes: what its read tally heard up to then, the newest first, and the value
pub record Making : Type 0 where
  pub heard : List Heard
  pub value : List ℕ

-- a promise that a tally heard was told to the read of the ballot. What else it heard may be anything
abbrev pub IsToldToRead : List Turn → ℕ → Heard → Type 0
IsToldToRead turns b h = (p : Stamped) → h.tell ≡ Promise p.ballot p.value → Contains turns (promise_turn h.cell b p)

-- a Written that a tally heard was told to the write of the pair. What else it heard may be anything
abbrev pub IsToldToWrite : List Turn → Stamped → Heard → Type 0
IsToldToWrite turns p h = h.tell ≡ Written p.ballot → Contains turns (written_turn h.cell p)

-- the parent of what a ballot writes: the greatest pair of its read tally
abbrev pub parent_of : ℕ → (ℕ → Making) → ℕ → Stamped
parent_of n making b = (read_tally n b (making b).heard).greatest

-- a write of x by ballot b is made rightly: x is the ballot's one value, and the ballot is not that of the start. Its
-- read tally, which may have gone on hearing, has its majority, from promises that were told before
pub record IsMade (n : ℕ) (first : CellState) (making : ℕ → Making) (before : List Turn) (b : ℕ) (x : List ℕ) : Type 0 where
  pub one_value : (making b).value ≡ x
  pub unused : b ≢ first.written
  pub majority : progress_of (read_tally n b (making b).heard).poll ≡ Majority
  pub told : All (IsToldToRead before b) (making b).heard

abbrev pub IsMadeAsk : ℕ → CellState → (ℕ → Making) → List Turn → CellAsk → Type 0
IsMadeAsk n first making before (Read b) = Unit {0}
IsMadeAsk n first making before (Write b x) = IsMade n first making before b x

-- each write among the turns is made rightly, from what stands before it. Reads are free
abbrev pub AllMade : ℕ → CellState → (ℕ → Making) → List Turn → Type 0
AllMade n first making [] = Unit {0}
AllMade n first making (t ∷ before) = IsMadeAsk n first making before t.ask × AllMade n first making before

-- a list of deliveries to n cells, with losses, repeats and crashes: the turns are what the cells did from their first
-- state on, and each write among them was made rightly
pub record IsLawful (n : ℕ) (first : CellState) (making : ℕ → Making) (turns : List Turn) : Type 0 where
  pub within : IsWithinPromise first
  pub history : IsHistory first turns
  pub made : AllMade n first making turns
