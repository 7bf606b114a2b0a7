-- What a tally answers, said of the whole list of tells that it heard. Each list of this file has the newest tell first.
use Rattle.std.specs.Prelude.{ℕ, ◌*◌, Bool, true, false, if◌then◌else◌, nat_lt, nat_eq, ◌==◌, ◌&&◌, ◌||◌, not, List, [], ◌∷◌, Option, Some, None}
use Rattle.std.specs.List.{list_all}
use Rattle.std.specs.Option.{option_or}
use Rattle.std.specs.Set.{is_member, distinct_count}
use Rattle.fr_register.specs.Poll.{Stamped, ReadState, WriteState}
use Rattle.fr_register.specs.Tally.{is_promise, new_read, new_write, hear_read, hear_write}
use Rattle.fr_register.specs.declared.ask.CellTell.{CellTell}
use Rattle.fr_register.specs.declared.ask.CellTell.TheVariants.{Promise, Written, Refused, TwoValues}
use Rattle.fr_register.specs.declared.poll.Progress.{Progress}
use Rattle.fr_register.specs.declared.poll.Progress.TheVariants.{Waiting, Majority, Lost}

-- a tell that a tally heard, with the cell that gave it
pub record Heard : Type 0 where
  pub cell : ℕ
  pub tell : CellTell

-- ---- step by step

-- the read tally of a ballot over n cells, after these tells
abbrev pub read_tally : ℕ → ℕ → List Heard → ReadState
read_tally n b [] = new_read n b
read_tally n b (h ∷ before) = hear_read (read_tally n b before) h.cell h.tell

-- the write tally of a ballot over n cells, after these tells
abbrev pub write_tally : ℕ → ℕ → List Heard → WriteState
write_tally n b [] = new_write n b
write_tally n b (h ∷ before) = hear_write (write_tally n b before) h.cell h.tell

-- ---- over the whole list

-- a refusal of either kind
abbrev pub is_refusal : CellTell → Bool
is_refusal (Promise w v) = false
is_refusal (Written b) = false
is_refusal (Refused promised) = true
is_refusal TwoValues = true

-- the cells below n that gave the awaited answer, as often as they gave it
abbrev pub supporters : ℕ → (CellTell → Bool) → List Heard → List ℕ
supporters n is_awaited [] = []
supporters n is_awaited (h ∷ before) =
    if nat_lt h.cell n && is_awaited h.tell then h.cell ∷ supporters n is_awaited before else supporters n is_awaited before

-- more than half of the cells below n gave the awaited answer
abbrev pub has_majority : ℕ → (CellTell → Bool) → List Heard → Bool
has_majority n is_awaited tells = nat_lt n (2 * distinct_count nat_eq (supporters n is_awaited tells))

-- this tell refuses, after those before it: it is of a cell below n that did not give the awaited answer
abbrev pub refuses : ℕ → (CellTell → Bool) → List Heard → Heard → Bool
refuses n is_awaited before h =
    is_refusal h.tell && (nat_lt h.cell n && not (is_member nat_eq (supporters n is_awaited before) h.cell))

-- the first tell that refuses or brings the majority
abbrev pub decider : ℕ → (CellTell → Bool) → List Heard → Option Heard
decider n is_awaited [] = None
decider n is_awaited (h ∷ before) =
    option_or (decider n is_awaited before)
    (if refuses n is_awaited before h || has_majority n is_awaited (h ∷ before) then Some h else None)

-- what a deciding tell makes of the tally of ballot b
abbrev pub verdict_of : ℕ → CellTell → Progress
verdict_of b (Promise w v) = Majority
verdict_of b (Written c) = Majority
verdict_of b (Refused promised) = Lost promised
verdict_of b TwoValues = Lost b

-- the answer of the tally of ballot b: what the first deciding tell makes of it, whatever comes after
abbrev pub verdict : ℕ → Option Heard → Progress
verdict b None = Waiting
verdict b (Some h) = verdict_of b h.tell

abbrev pub is_of : ℕ → Option Heard → Bool
is_of i None = false
is_of i (Some h) = h.cell == i

-- a cell is heard once it gave the awaited answer or decided
abbrev pub was_heard : ℕ → (CellTell → Bool) → List Heard → ℕ → Bool
was_heard n is_awaited tells i = is_of i (decider n is_awaited tells) || is_member nat_eq (supporters n is_awaited tells) i

-- the pair that a promise has
abbrev pub pairs_of : CellTell → List Stamped → List Stamped
pairs_of (Promise w v) ps = record { ballot = w; value = v } ∷ ps
pairs_of (Written b) ps = ps
pairs_of (Refused promised) ps = ps
pairs_of TwoValues ps = ps

-- the promised pairs that count: the first promise of each cell below n that was not heard before
abbrev pub promised_pairs : ℕ → List Heard → List Stamped
promised_pairs n [] = []
promised_pairs n (h ∷ before) =
    if nat_lt h.cell n && not (was_heard n is_promise before h.cell)
    then pairs_of h.tell (promised_pairs n before)
    else promised_pairs n before

-- the pair of the greatest ballot, and of equal ones that heard first: the newest that is above each older one
abbrev pub greatest_of : List Stamped → Stamped
greatest_of [] = record { ballot = 0; value = [] }
greatest_of (p ∷ older) = if list_all (λ q. nat_lt q.ballot p.ballot) older then p else greatest_of older
