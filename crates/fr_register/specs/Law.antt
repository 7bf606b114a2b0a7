-- The laws of cells, of tallies and of the register, as statements.
use Rattle.std.specs.Prelude.{◌≡◌, ℕ, ◌<◌, ◌≤◌, true, List, ◌∷◌, ◌++◌, All, Contains}
use Rattle.fr_register.specs.CellState.{CellState}
use Rattle.fr_register.specs.Cell.{answer_of, next_of, IsWithinPromise}
use Rattle.fr_register.specs.Answers.{Change, IsPromised, IsTaken, IsRefused, IsSecond, Grows, IsAnswered}
use Rattle.fr_register.specs.Poll.{Stamped, ReadState, WriteState}
use Rattle.fr_register.specs.Tally.{is_promise, is_written, is_heard, progress_of, new_read, new_write, hear_read, hear_write}
use Rattle.fr_register.specs.Faithful.{IsFaithfulRead, IsFaithfulWrite}
use Rattle.fr_register.specs.Heard.{Heard, is_refusal, read_tally, write_tally, decider, verdict, was_heard, promised_pairs, greatest_of}
use Rattle.fr_register.specs.History.{Turn, Asked, turns_of, cell_at, IsHistory, IsWritten, promise_turn}
use Rattle.fr_register.specs.Chosen.{IsCellOf, IsKept, IsWrittenByMajority, IsReadByMajority, IsChosen, Descends, IsReady, HasParents}
use Rattle.fr_register.specs.Made.{Making, IsToldToRead, IsToldToWrite, parent_of, IsMade, IsLawful}
use Rattle.fr_register.specs.declared.ask.CellAsk.{CellAsk}
use Rattle.fr_register.specs.declared.ask.CellTell.TheVariants.{Promise, Written, Refused, TwoValues}
use Rattle.fr_register.specs.declared.poll.Progress.TheVariants.{Majority}

-- ---- cells

-- whatever is delivered in whatever order, the cells' answers make a history of it
abbrev pub EachListIsAHistory : Type 0
EachListIsAHistory = (first : CellState) (asked : List Asked) → IsHistory first (turns_of first asked)

-- after each history a cell has the greatest pair that it took, and is within its promise
abbrev pub CellsHoldTheirLast : Type 0
CellsHoldTheirLast =
    (first : CellState) (turns : List Turn) (i : ℕ) → IsWithinPromise first → IsHistory first turns →
    IsCellOf first turns i (cell_at first turns i)

-- a cell that promised ballot b with a pair never takes a pair between the two
abbrev pub PromisesAreKept : Type 0
PromisesAreKept =
    (first : CellState) (turns : List Turn) (i b : ℕ) (p : Stamped) → IsWithinPromise first → IsHistory first turns →
    Contains turns (promise_turn i b p) → IsKept first turns i b p

-- what an answer says of the cell and the ask
abbrev pub PromiseAnswersRead : Type 0
PromiseAnswersRead = (c : CellState) (a : CellAsk) (w : ℕ) (v : List ℕ) → answer_of c a ≡ Promise w v → IsPromised c a w v

abbrev pub WrittenAnswersWrite : Type 0
WrittenAnswersWrite = (c : CellState) (a : CellAsk) (b : ℕ) → answer_of c a ≡ Written b → IsTaken c a b

abbrev pub RefusedIsBelow : Type 0
RefusedIsBelow = (c : CellState) (a : CellAsk) (promised : ℕ) → answer_of c a ≡ Refused promised → IsRefused c a promised

abbrev pub TwoValuesAnswersSecond : Type 0
TwoValuesAnswersSecond = (c : CellState) (a : CellAsk) → answer_of c a ≡ TwoValues → IsSecond c a

-- each ask is answered in one of the four ways
abbrev pub AskIsChange : Type 0
AskIsChange = (c : CellState) (a : CellAsk) → Change c a (answer_of c a) (next_of c a)

-- an ask that is refused changes nothing
abbrev pub RefusalChangesNothing : Type 0
RefusalChangesNothing = (c : CellState) (a : CellAsk) → is_refusal (answer_of c a) ≡ true → next_of c a ≡ c

-- a cell grows with each ask
abbrev pub CellGrows : Type 0
CellGrows = (c : CellState) (a : CellAsk) → IsWithinPromise c → Grows c (next_of c a)

-- and with all that comes later
abbrev pub CellsGrow : Type 0
CellsGrow =
    (first : CellState) (later before : List Turn) (i : ℕ) → IsWithinPromise first →
    Grows (cell_at first before i) (cell_at first (later ++ before) i)

-- each turn of a history was answered by its cell, in the state of then
abbrev pub TurnsAreAnswered : Type 0
TurnsAreAnswered =
    (first : CellState) (turns : List Turn) (t : Turn) → IsWithinPromise first → IsHistory first turns → Contains turns t →
    IsAnswered first turns t

-- ---- tallies

-- a read tally answers what the first tell that refuses or brings the majority makes of it
abbrev pub ReadAnswersFirst : Type 0
ReadAnswersFirst =
    (n b : ℕ) (tells : List Heard) → progress_of (read_tally n b tells).poll ≡ verdict b (decider n is_promise tells)

-- it has the greatest of the pairs that were promised, before and after it answered
abbrev pub ReadHasGreatest : Type 0
ReadHasGreatest = (n b : ℕ) (tells : List Heard) → (read_tally n b tells).greatest ≡ greatest_of (promised_pairs n tells)

-- it heard the cells that promised, and the one that decided
abbrev pub ReadHearsOnce : Type 0
ReadHearsOnce =
    (n b : ℕ) (tells : List Heard) (i : ℕ) → is_heard (read_tally n b tells).poll i ≡ was_heard n is_promise tells i

-- a write tally answers what the first tell that refuses or brings the majority makes of it
abbrev pub WriteAnswersFirst : Type 0
WriteAnswersFirst =
    (n b : ℕ) (tells : List Heard) → progress_of (write_tally n b tells).poll ≡ verdict b (decider n (is_written b) tells)

-- it heard the cells that hold the write, and the one that decided
abbrev pub WriteHearsOnce : Type 0
WriteHearsOnce =
    (n b : ℕ) (tells : List Heard) (i : ℕ) →
    is_heard (write_tally n b tells).poll i ≡ was_heard n (is_written b) tells i

-- a read tally that heard nothing is faithful, and stays so with each tell that it hears and with each further turn
abbrev pub NewReadIsFaithful : Type 0
NewReadIsFaithful = (n : ℕ) (turns : List Turn) (b : ℕ) → IsFaithfulRead n turns b (new_read n b)

abbrev pub HearingKeepsRead : Type 0
HearingKeepsRead =
    (n : ℕ) (turns : List Turn) (b : ℕ) (t : ReadState) (h : Heard) → IsToldToRead turns b h → IsFaithfulRead n turns b t →
    IsFaithfulRead n turns b (hear_read t h.cell h.tell)

abbrev pub TurnsKeepRead : Type 0
TurnsKeepRead =
    (n : ℕ) (turns : List Turn) (next : Turn) (b : ℕ) (t : ReadState) → IsFaithfulRead n turns b t → IsFaithfulRead n (next ∷ turns) b t

-- one with a majority has the greatest pair of a read majority
abbrev pub FaithfulReadIsRead : Type 0
FaithfulReadIsRead =
    (n : ℕ) (turns : List Turn) (b : ℕ) (t : ReadState) → IsFaithfulRead n turns b t → progress_of t.poll ≡ Majority →
    IsReadByMajority n turns b t.greatest

-- a write tally that heard nothing is faithful, and stays so with each tell that it hears and with each further turn
abbrev pub NewWriteIsFaithful : Type 0
NewWriteIsFaithful = (n : ℕ) (turns : List Turn) (p : Stamped) → IsFaithfulWrite n turns p (new_write n p.ballot)

abbrev pub HearingKeepsWrite : Type 0
HearingKeepsWrite =
    (n : ℕ) (turns : List Turn) (p : Stamped) (t : WriteState) (h : Heard) → IsToldToWrite turns p h → IsFaithfulWrite n turns p t →
    IsFaithfulWrite n turns p (hear_write t h.cell h.tell)

abbrev pub TurnsKeepWrite : Type 0
TurnsKeepWrite =
    (n : ℕ) (turns : List Turn) (next : Turn) (p : Stamped) (t : WriteState) → IsFaithfulWrite n turns p t → IsFaithfulWrite n (next ∷ turns) p t

-- one with a majority shows that a majority holds the pair
abbrev pub FaithfulWriteIsWritten : Type 0
FaithfulWriteIsWritten =
    (n : ℕ) (turns : List Turn) (p : Stamped) (t : WriteState) → IsFaithfulWrite n turns p t → progress_of t.poll ≡ Majority →
    IsWrittenByMajority n turns p

-- a read tally with a majority of promises that were told to its read has the greatest pair of a read majority
abbrev pub ReadMajorityIsRead : Type 0
ReadMajorityIsRead =
    (n b : ℕ) (turns : List Turn) (heard : List Heard) → All (IsToldToRead turns b) heard →
    progress_of (read_tally n b heard).poll ≡ Majority → IsReadByMajority n turns b (read_tally n b heard).greatest

-- a write tally with a majority of answers that were told to the write of a pair shows that a majority holds the pair
abbrev pub WriteMajorityIsWritten : Type 0
WriteMajorityIsWritten =
    (n : ℕ) (turns : List Turn) (p : Stamped) (heard : List Heard) → All (IsToldToWrite turns p) heard →
    progress_of (write_tally n p.ballot heard).poll ≡ Majority → IsWrittenByMajority n turns p

-- ---- the register, over what each ballot has read, in no order

-- each pair written under a higher ballot than a chosen one descends from it
abbrev pub LaterDescends : Type 0
LaterDescends =
    (n : ℕ) (first : CellState) (parent : ℕ → Stamped) (turns : List Turn) (chosen later : Stamped) →
    HasParents n first parent turns → IsChosen n first turns chosen → IsWritten turns later → chosen.ballot < later.ballot →
    Descends turns parent later chosen

-- so does the parent of a higher ballot that may write, whether or not its write has come anywhere
abbrev pub ReadyDescends : Type 0
ReadyDescends =
    (n : ℕ) (first : CellState) (parent : ℕ → Stamped) (turns : List Turn) (chosen : Stamped) (b : ℕ) →
    HasParents n first parent turns → IsChosen n first turns chosen → IsReady n first turns b (parent b) → chosen.ballot < b →
    Descends turns parent (parent b) chosen

-- no chosen pair is below the start
abbrev pub StartIsLeast : Type 0
StartIsLeast =
    (n : ℕ) (first : CellState) (parent : ℕ → Stamped) (turns : List Turn) (chosen : Stamped) →
    HasParents n first parent turns → IsChosen n first turns chosen → first.written ≤ chosen.ballot

-- a ballot has at most one chosen value
abbrev pub OneIsChosen : Type 0
OneIsChosen =
    (n : ℕ) (first : CellState) (parent : ℕ → Stamped) (turns : List Turn) (p q : Stamped) →
    HasParents n first parent turns → IsChosen n first turns p → IsChosen n first turns q → p.ballot ≡ q.ballot → p ≡ q

-- ---- the register, over lists of deliveries in which each write is made from what stands before it

-- each pair written under a higher ballot than a chosen one descends from it
abbrev pub LaterInListDescends : Type 0
LaterInListDescends =
    (n : ℕ) (first : CellState) (making : ℕ → Making) (turns : List Turn) (chosen later : Stamped) →
    IsLawful n first making turns → IsChosen n first turns chosen → IsWritten turns later → chosen.ballot < later.ballot →
    Descends turns (parent_of n making) later chosen

-- so does the parent of what a higher ballot may write by now, whether or not its write has come anywhere
abbrev pub ReadyInListDescends : Type 0
ReadyInListDescends =
    (n : ℕ) (first : CellState) (making : ℕ → Making) (turns : List Turn) (chosen later : Stamped) →
    IsLawful n first making turns → IsChosen n first turns chosen → IsMade n first making turns later.ballot later.value →
    chosen.ballot < later.ballot → Descends turns (parent_of n making) (parent_of n making later.ballot) chosen

-- no chosen pair is below the start
abbrev pub StartInListIsLeast : Type 0
StartInListIsLeast =
    (n : ℕ) (first : CellState) (making : ℕ → Making) (turns : List Turn) (chosen : Stamped) →
    IsLawful n first making turns → IsChosen n first turns chosen → first.written ≤ chosen.ballot

-- a ballot has at most one chosen value
abbrev pub OneInListIsChosen : Type 0
OneInListIsChosen =
    (n : ℕ) (first : CellState) (making : ℕ → Making) (turns : List Turn) (p q : Stamped) →
    IsLawful n first making turns → IsChosen n first turns p → IsChosen n first turns q → p.ballot ≡ q.ballot → p ≡ q

-- each pair that has come to a cell was made rightly
abbrev pub WrittenIsMade : Type 0
WrittenIsMade =
    (n : ℕ) (first : CellState) (making : ℕ → Making) (turns : List Turn) (p : Stamped) →
    IsLawful n first making turns → IsWritten turns p → IsMade n first making turns p.ballot p.value

-- what ballots have read that wrote nothing does not matter
abbrev pub OnlyWritersMatter : Type 0
OnlyWritersMatter =
    (n : ℕ) (first : CellState) (making other : ℕ → Making) (turns : List Turn) →
    ((p : Stamped) → IsWritten turns p → making p.ballot ≡ other p.ballot) → IsLawful n first making turns → IsLawful n first other turns

-- in such a list each ballot that wrote has its parent
abbrev pub ListHasParents : Type 0
ListHasParents =
    (n : ℕ) (first : CellState) (making : ℕ → Making) (turns : List Turn) →
    IsLawful n first making turns → HasParents n first (parent_of n making) turns

-- and each that may write by now is ready
abbrev pub MadeIsReady : Type 0
MadeIsReady =
    (n : ℕ) (first : CellState) (making : ℕ → Making) (turns : List Turn) (b : ℕ) (x : List ℕ) →
    IsLawful n first making turns → IsMade n first making turns b x → IsReady n first turns b (parent_of n making b)
