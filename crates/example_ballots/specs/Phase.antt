-- What one ballot's phase over two of three cells makes of its tally.
use Rattle.std.specs.Prelude.{ℕ, List}
use Rattle.fr_register.specs.CellState.{CellState}
use Rattle.fr_register.specs.Cell.{answer_of, next_of}
use Rattle.fr_register.specs.Poll.{ReadState, WriteState}
use Rattle.fr_register.specs.Tally.{new_read, new_write, hear_read, hear_write, progress_of}
use Rattle.example_ballots.specs.declared.phases.ReadOutcome.{ReadOutcome}
use Rattle.fr_register.specs.declared.ask.CellAsk.TheVariants.{Read, Write}

-- a cell after the read of a ballot
abbrev pub after_read : CellState → ℕ → CellState
after_read c b = next_of c (Read b)

-- a cell after the write of a value under a ballot
abbrev pub after_write : CellState → ℕ → List ℕ → CellState
after_write c b x = next_of c (Write b x)

-- a read tally that heard what the cell of this index answers to the read of a ballot
abbrev pub read_of : ReadState → ℕ → CellState → ℕ → ReadState
read_of t i c b = hear_read t i (answer_of c (Read b))

-- a write tally that heard what the cell of this index answers to the write of a value under a ballot
abbrev pub write_of : WriteState → ℕ → CellState → ℕ → List ℕ → WriteState
write_of t i c b x = hear_write t i (answer_of c (Write b x))

-- the read tally of a ballot over three cells, once two of them answered
abbrev pub read_of_two : ℕ → ℕ → CellState → ℕ → CellState → ReadState
read_of_two b i c j d = read_of (read_of (new_read 3 b) i c b) j d b

-- the write tally of a ballot over three cells, once two of them answered
abbrev pub write_of_two : ℕ → List ℕ → ℕ → CellState → ℕ → CellState → WriteState
write_of_two b x i c j d = write_of (write_of (new_write 3 b) i c b x) j d b x

-- what a read tally has found
abbrev pub found_by : ReadState → ReadOutcome
found_by t = record { progress = progress_of t.poll; written = t.greatest.ballot; value = t.greatest.value }
