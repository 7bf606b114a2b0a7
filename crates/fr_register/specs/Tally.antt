-- What a tally is after one more tell.
use Rattle.std.specs.Prelude.{ℕ, ◌*◌, Bool, true, false, if◌then◌else◌, nat_lt, ◌==◌, ◌&&◌, ◌||◌, not, List, [], ◌∷◌, ◌++◌, length, Option, Some, None}
use Rattle.std.specs.List.{list_any}
use Rattle.fr_register.specs.Poll.{Stamped, Poll, ReadState, WriteState}
use Rattle.fr_register.specs.declared.ask.CellTell.{CellTell}
use Rattle.fr_register.specs.declared.ask.CellTell.TheVariants.{Promise, Written, Refused, TwoValues}
use Rattle.fr_register.specs.declared.poll.Progress.{Progress}
use Rattle.fr_register.specs.declared.poll.Progress.TheVariants.{Waiting, Majority, Lost}
use Rattle.fr_register.specs.declared.poll.Refusal.{Refusal}

-- more than half of the cells gave the answer that is waited for
abbrev pub is_majority : Poll → Bool
is_majority p = nat_lt p.cells (2 * length p.heard)

abbrev pub progress_from : Poll → Option Refusal → Progress
progress_from p (Some refusal) = Lost refusal.promised
progress_from p None = if is_majority p then Majority else Waiting

-- a refusal while the poll waited is its answer, and else a majority is
abbrev pub progress_of : Poll → Progress
progress_of p = progress_from p p.refusal

abbrev pub is_refusal_of : ℕ → Option Refusal → Bool
is_refusal_of i (Some refusal) = refusal.index == i
is_refusal_of i None = false

-- a cell is heard by the answer that is waited for, or by the refusal that ended the poll
abbrev pub is_heard : Poll → ℕ → Bool
is_heard p i = is_refusal_of i p.refusal || list_any (λ j. j == i) p.heard

-- a tell of this cell may change something: it is one of the cells, and was not heard
abbrev pub is_wanted : Poll → ℕ → Bool
is_wanted p i = nat_lt i p.cells && not (is_heard p i)

-- the answer that a read tally waits for
abbrev pub is_promise : CellTell → Bool
is_promise (Promise w v) = true
is_promise (Written b) = false
is_promise (Refused promised) = false
is_promise TwoValues = false

-- the answer that the write tally of ballot b waits for
abbrev pub is_written : ℕ → CellTell → Bool
is_written b (Promise w v) = false
is_written b (Written c) = c == b
is_written b (Refused promised) = false
is_written b TwoValues = false

-- the tells that take room: the answer that is waited for, of a cell that is wanted
abbrev pub takes_room : (CellTell → Bool) → Poll → ℕ → CellTell → Bool
takes_room is_awaited p i tell = is_wanted p i && is_awaited tell

-- a poll that heard nothing
abbrev pub new_poll : ℕ → Poll
new_poll cells = record { cells = cells; heard = []; refusal = None }

-- this cell gave the answer
abbrev pub with_heard : Poll → ℕ → Poll
with_heard p i = record p { heard = p.heard ++ i ∷ [] }

abbrev pub refused_at : Progress → Poll → ℕ → ℕ → Poll
refused_at Waiting p i promised = record p { refusal = Some (record { index = i; promised = promised }) }
refused_at Majority p i promised = p
refused_at (Lost before) p i promised = p

-- this cell refused: that ends a poll that waits, and changes no other
abbrev pub with_refusal : Poll → ℕ → ℕ → Poll
with_refusal p i promised = refused_at (progress_of p) p i promised

-- a read tally that heard nothing: ballot 0 and no bytes stand for the pair
abbrev pub new_read : ℕ → ℕ → ReadState
new_read cells b = record { ballot = b; poll = new_poll cells; greatest = record { ballot = 0; value = [] } }

-- a write tally that heard nothing
abbrev pub new_write : ℕ → ℕ → WriteState
new_write cells b = record { ballot = b; poll = new_poll cells }

-- the first pair that was heard, or one of a greater ballot, takes the place of the one before
abbrev pub greater_of : ReadState → ℕ → List ℕ → Stamped
greater_of t w v =
    if (length t.poll.heard == 0) || nat_lt t.greatest.ballot w then record { ballot = w; value = v } else t.greatest

-- a read tally after a tell of a cell that it wants
abbrev pub take_read : ReadState → ℕ → CellTell → ReadState
take_read t i (Promise w v) = record { ballot = t.ballot; poll = with_heard t.poll i; greatest = greater_of t w v }
take_read t i (Written b) = t
take_read t i (Refused promised) = record t { poll = with_refusal t.poll i promised }
take_read t i TwoValues = record t { poll = with_refusal t.poll i t.ballot }

-- a read tally after one more tell
abbrev pub hear_read : ReadState → ℕ → CellTell → ReadState
hear_read t i tell = if is_wanted t.poll i then take_read t i tell else t

-- a write tally after a tell of a cell that it wants
abbrev pub take_write : WriteState → ℕ → CellTell → WriteState
take_write t i (Promise w v) = t
take_write t i (Written b) = if b == t.ballot then record t { poll = with_heard t.poll i } else t
take_write t i (Refused promised) = record t { poll = with_refusal t.poll i promised }
take_write t i TwoValues = record t { poll = with_refusal t.poll i t.ballot }

-- a write tally after one more tell
abbrev pub hear_write : WriteState → ℕ → CellTell → WriteState
hear_write t i tell = if is_wanted t.poll i then take_write t i tell else t
