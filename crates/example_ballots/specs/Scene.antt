-- What a ballot comes to, and what a cell holds, at the end of a scene.
use Rattle.std.specs.Prelude.{ℕ, List, []}
use Rattle.fr_register.specs.CellState.{CellState}
use Rattle.fr_register.specs.declared.poll.Progress.{Progress}
use Rattle.fr_register.specs.declared.poll.Progress.TheVariants.{Majority}
use Rattle.fr_register.specs.Tally.{progress_of}
use Rattle.example_ballots.specs.Phase.{after_read, after_write, found_by, read_of_two, write_of_two}
use Rattle.example_ballots.specs.declared.phases.ReadOutcome.{ReadOutcome}
use Rattle.example_ballots.specs.declared.scenes.Attempt.{Attempt}

-- a majority of the cells was read, and this pair is the greatest that they had
abbrev pub found : ℕ → List ℕ → ReadOutcome
found b x = record { progress = Majority; written = b; value = x }

-- a majority of the cells was read, and none of them had been written
abbrev pub found_nothing : ReadOutcome
found_nothing = found 0 []

-- a ballot that found this and whose write then came to this
abbrev pub attempt : ReadOutcome → Progress → Attempt
attempt f p = record { found = f; wrote = p }

-- a cell whose last ask was the write of this value under this ballot
abbrev pub held : ℕ → List ℕ → CellState
held b x = record { promised = b; written = b; value = x }

-- a ballot that reads two of three cells and then writes a value to them
abbrev pub attempt_of : ℕ → List ℕ → ℕ → CellState → ℕ → CellState → Attempt
attempt_of b x i c j d = attempt (found_by (read_of_two b i c j d)) (progress_of (write_of_two b x i (after_read c b) j (after_read d b)).poll)

-- a cell after the read of a ballot and then its write of a value
abbrev pub after_attempt : CellState → ℕ → List ℕ → CellState
after_attempt c b x = after_write (after_read c b) b x
