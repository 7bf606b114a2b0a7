-- Three ballots that contend over three cells: what is delivered, and what each ballot has read.
use Rattle.std.specs.Prelude.{ℕ, ◌==◌, if◌then◌else◌, List, [], ◌∷◌}
use Rattle.fr_register.specs.CellState.{CellState}
use Rattle.fr_register.specs.Poll.{Stamped}
use Rattle.fr_register.specs.Heard.{Heard}
use Rattle.fr_register.specs.History.{Turn, Asked, turns_of}
use Rattle.fr_register.specs.Made.{Making}
use Rattle.fr_register.specs.declared.ask.CellAsk.TheVariants.{Read, Write}
use Rattle.fr_register.specs.declared.ask.CellTell.TheVariants.{Promise}

-- each cell begins with the value 7 of ballot 257
abbrev pub begun : CellState
begun = record { promised = 257; written = 257; value = 7 ∷ [] }

abbrev pub read_at : ℕ → ℕ → Asked
read_at i b = record { cell = i; ask = Read b }

abbrev pub write_at : ℕ → ℕ → List ℕ → Asked
write_at i b x = record { cell = i; ask = Write b x }

-- ballot 513 has read cells 0 and 1, and then 514 cells 1 and 2
abbrev pub both_read : List Asked
both_read = read_at 2 514 ∷ read_at 1 514 ∷ read_at 1 513 ∷ read_at 0 513 ∷ []

-- 513 writes the value 1 to cell 0
abbrev pub first_wrote : List Asked
first_wrote = write_at 0 513 (1 ∷ []) ∷ both_read

-- it reads cell 1 again, which refuses the read, and the write too
abbrev pub first_lost : List Asked
first_lost = write_at 1 513 (1 ∷ []) ∷ read_at 1 513 ∷ first_wrote

-- 514 writes the value 2 to cell 1
abbrev pub second_wrote : List Asked
second_wrote = write_at 1 514 (2 ∷ []) ∷ first_lost

-- and to cell 2, so that it is chosen
abbrev pub second_won : List Asked
second_won = write_at 2 514 (2 ∷ []) ∷ second_wrote

-- 769 reads cells 0 and 1, and finds the values of both
abbrev pub third_read : List Asked
third_read = read_at 1 769 ∷ read_at 0 769 ∷ second_won

-- it writes the value 3 to cell 0
abbrev pub deliveries : List Asked
deliveries = write_at 0 769 (3 ∷ []) ∷ third_read

-- what the cells did
abbrev pub contended : List Turn
contended = turns_of begun deliveries

abbrev pub promise_of : ℕ → ℕ → List ℕ → Heard
promise_of i w v = record { cell = i; tell = Promise w v }

-- what each ballot has read, and the value that it writes
abbrev pub readings : ℕ → Making
readings b =
    if b == 513 then record { heard = promise_of 1 257 (7 ∷ []) ∷ promise_of 0 257 (7 ∷ []) ∷ []; value = 1 ∷ [] }
    else if b == 514 then record { heard = promise_of 2 257 (7 ∷ []) ∷ promise_of 1 257 (7 ∷ []) ∷ []; value = 2 ∷ [] }
    else record { heard = promise_of 1 514 (2 ∷ []) ∷ promise_of 0 513 (1 ∷ []) ∷ []; value = 3 ∷ [] }

-- the pair that a majority holds in the end
abbrev pub won : Stamped
won = record { ballot = 514; value = 2 ∷ [] }

-- the pair that the third ballot wrote
abbrev pub later : Stamped
later = record { ballot = 769; value = 3 ∷ [] }
