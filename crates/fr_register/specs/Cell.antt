-- What a cell answers, and what it is then.
use Rattle.std.specs.Prelude.{ℕ, ◌<◌, ◌≤◌, Bool, if◌then◌else◌, nat_lt, ◌==◌, ◌&&◌, not, List}
use Rattle.fr_base.specs.Bytes.{bytes_eq}
use Rattle.fr_register.specs.CellState.{CellState}
use Rattle.fr_register.specs.declared.ask.CellAsk.{CellAsk}
use Rattle.fr_register.specs.declared.ask.CellAsk.TheVariants.{Read, Write}
use Rattle.fr_register.specs.declared.ask.CellTell.{CellTell}
use Rattle.fr_register.specs.declared.ask.CellTell.TheVariants.{Promise, Written, Refused, TwoValues}

-- the ballot of an ask
abbrev pub ballot_of : CellAsk → ℕ
ballot_of (Read b) = b
ballot_of (Write b x) = b

-- a second value for the ballot that the cell wrote last
abbrev pub is_second : CellState → ℕ → List ℕ → Bool
is_second c b x = (c.written == b) && not (bytes_eq c.value x)

-- what a cell answers to a ballot that is not below its promise
abbrev pub free_answer : CellState → CellAsk → CellTell
free_answer c (Read b) = Promise c.written c.value
free_answer c (Write b x) = if is_second c b x then TwoValues else Written b

-- what a cell is after such a ballot: a read is promised, a write is held, a second value changes nothing
abbrev pub free_next : CellState → CellAsk → CellState
free_next c (Read b) = record c { promised = b }
free_next c (Write b x) = if is_second c b x then c else record { promised = b; written = b; value = x }

-- what a cell answers: a ballot below the promised one is refused with that one
abbrev pub answer_of : CellState → CellAsk → CellTell
answer_of c a = if nat_lt (ballot_of a) c.promised then Refused c.promised else free_answer c a

-- what a cell is after an ask: a refusal changes nothing
abbrev pub next_of : CellState → CellAsk → CellState
next_of c a = if nat_lt (ballot_of a) c.promised then c else free_next c a

-- a cell never wrote above its promise
abbrev pub IsWithinPromise : CellState → Type 0
IsWithinPromise c = c.written ≤ c.promised

-- the asks that take no memory: each write, and a read that is refused
abbrev pub IsAnsweredInPlace : CellState → CellAsk → Type 0
IsAnsweredInPlace c (Read b) = b < c.promised
IsAnsweredInPlace c (Write b x) = Unit {0}

-- the asks and the tells that hold no value
abbrev pub AskHoldsNone : CellAsk → Type 0
AskHoldsNone (Read b) = Unit {0}
AskHoldsNone (Write b x) = ⊥

abbrev pub TellHoldsNone : CellTell → Type 0
TellHoldsNone (Promise w v) = ⊥
TellHoldsNone (Written b) = Unit {0}
TellHoldsNone (Refused promised) = Unit {0}
TellHoldsNone TwoValues = Unit {0}
