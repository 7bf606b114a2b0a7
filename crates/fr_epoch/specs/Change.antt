-- What can become of a recoverer at one tell: a case for each way in which it may change, with the word that it heard.
use Rattle.std.specs.Prelude.{◌≡◌, ◌<◌, ◌≤◌, ℕ, ◌+◌, ◌^◌, true, false, List, Some, Ok}
use Rattle.fr_register.specs.Tally.{progress_of}
use Rattle.fr_register.specs.declared.ask.CellTell.{CellTell}
use Rattle.fr_register.specs.declared.poll.Progress.TheVariants.{Majority}
use Rattle.fr_state.specs.Generations.{LogGeneration, CoordinatedState, last_of}
use Rattle.fr_state.specs.Order.{extended}
use Rattle.fr_state.specs.Reading.{reading}
use Rattle.fr_log.specs.declared.popped.PoppedTag.{PoppedTag}
use Rattle.fr_log.specs.Peeked.{PeekedContent}
use Rattle.fr_log.specs.declared.ask.LogTell.TheVariants.{Locked, Peeked, Seeded, Held}
use Rattle.fr_epoch.specs.EndTally.{EndState, with_reply, is_covered, pev_of, rv_of}
use Rattle.fr_epoch.specs.Recoverer.{RecState, Parent, Plan, Reading, Locking, Copying, Writing, Chosen, is_copied, is_written}
use Rattle.fr_epoch.specs.Words.{Word, OfCell, OfLog, is_in}
use Rattle.fr_epoch.specs.Hear.{lost, with_last, with_read, with_lock, left_of, plan_of, next_generation, with_tail, with_seeded, with_write, with_marked}
use Rattle.fr_epoch.specs.declared.why.LostWhy.{LostWhy}

-- the tell is of a cell, while the recoverer reads
pub record IsPromised (r : RecState) (w : Word) (i : ℕ) (t : CellTell) : Type 0 where
  pub phase : r.phase ≡ Reading
  pub word : w ≡ OfCell i t

-- the greatest pair of a read majority is a state, and this is its last generation
pub record IsFound (r : RecState) (s : CoordinatedState) (g : LogGeneration) : Type 0 where
  pub majority : progress_of r.reads.poll ≡ Majority
  pub value : reading r.reads.greatest.value ≡ Ok s
  pub last : last_of s.gens ≡ Some g

-- a log of the parent's last generation told that it is locked
pub record IsReplied (r : RecState) (w : Word) (p : Parent) (end : EndState) (i durable known : ℕ) (popped : List PoppedTag) : Type 0 where
  pub phase : r.phase ≡ Locking
  pub parent : r.parent ≡ Some p
  pub tally : r.end ≡ Some end
  pub word : w ≡ OfLog p.last.epoch i (Locked durable known popped)

-- the replies cover, and the state with the next generation is this one
pub record IsEnded (r : RecState) (p : Parent) (end : EndState) (s : CoordinatedState) : Type 0 where
  pub covered : is_covered end ≡ true
  pub within : pev_of end ≤ rv_of end
  pub below : rv_of end + 1 < 2 ^ 62
  pub state : extended (left_of r p) (next_generation r p end) ≡ Ok s

-- a log of the parent's last generation told records of a tag
pub record IsGiven (r : RecState) (w : Word) (parent : Parent) (p : Plan) (i : ℕ) (peeked : PeekedContent) : Type 0 where
  pub phase : r.phase ≡ Copying
  pub parent_is : r.parent ≡ Some parent
  pub plan : r.plan ≡ Some p
  pub word : w ≡ OfLog parent.last.epoch i (Peeked peeked)

-- one more log of the new generation told that it is seeded, once the copy is complete
pub record IsNewlySeeded (r : RecState) (w : Word) (p : Plan) (i : ℕ) : Type 0 where
  pub phase : r.phase ≡ Copying
  pub plan : r.plan ≡ Some p
  pub word : w ≡ OfLog r.ballot i Seeded
  pub below : i < p.generation.m
  pub copied : is_copied r ≡ true
  pub first : is_in r.seeded i ≡ false

-- the tell is of a cell, while the recoverer writes
pub record IsVoted (r : RecState) (w : Word) (i : ℕ) (t : CellTell) : Type 0 where
  pub phase : r.phase ≡ Writing
  pub word : w ≡ OfCell i t

-- one more log of the new generation told that it holds the mark
pub record IsNewlyMarked (r : RecState) (w : Word) (p : Plan) (i : ℕ) : Type 0 where
  pub phase : r.phase ≡ Chosen
  pub plan : r.plan ≡ Some p
  pub word : w ≡ OfLog r.ballot i (Held (p.generation.seeded_to + 1))
  pub below : i < p.generation.m
  pub first : is_in r.marked i ≡ false

-- the tally once it has one more reply
abbrev pub replied : EndState → ℕ → ℕ → ℕ → EndState
replied end i durable known = with_reply end (record { log = i; durable = durable; known = known })

pub data Change (r : RecState) (w : Word) : RecState → Type 0 where
  Stands : Change r w r
  LosesReads : (i : ℕ) (t : CellTell) (why : LostWhy) → IsPromised r w i t → Change r w (lost (with_read r i t) why)
  Reads : (i : ℕ) (t : CellTell) → IsPromised r w i t → Change r w (with_read r i t)
  Finds : (i : ℕ) (t : CellTell) (s : CoordinatedState) (g : LogGeneration) → IsPromised r w i t → IsFound (with_read r i t) s g → Change r w (with_last (with_read r i t) s (Some g))
  Locks : (p : Parent) (end : EndState) (i durable known : ℕ) (popped : List PoppedTag) → IsReplied r w p end i durable known popped → Change r w (with_lock r end i durable known popped)
  LosesLocks : (p : Parent) (end : EndState) (i durable known : ℕ) (popped : List PoppedTag) (why : LostWhy) → IsReplied r w p end i durable known popped → Change r w (lost (with_lock r end i durable known popped) why)
  Plans : (p : Parent) (end : EndState) (i durable known : ℕ) (popped : List PoppedTag) (s : CoordinatedState) → IsReplied r w p end i durable known popped → IsEnded (with_lock r end i durable known popped) p (replied end i durable known) s
      → Change r w (record (with_lock r end i durable known popped) { phase = Copying; plan = Some (plan_of r p (replied end i durable known) s) })
  Copies : (parent : Parent) (p : Plan) (i : ℕ) (peeked : PeekedContent) → IsGiven r w parent p i peeked → Change r w (with_tail r p i peeked)
  Seeds : (p : Plan) (i : ℕ) → IsNewlySeeded r w p i → is_written (with_seeded r i) ≡ false → Change r w (with_seeded r i)
  SeedsAll : (p : Plan) (i : ℕ) → IsNewlySeeded r w p i → is_written (with_seeded r i) ≡ true → Change r w (record (with_seeded r i) { phase = Writing })
  Writes : (i : ℕ) (t : CellTell) → IsVoted r w i t → Change r w (with_write r i t)
  LosesWrites : (i : ℕ) (t : CellTell) (why : LostWhy) → IsVoted r w i t → Change r w (lost (with_write r i t) why)
  Chooses : (i : ℕ) (t : CellTell) → IsVoted r w i t → progress_of (with_write r i t).writes.poll ≡ Majority → Change r w (record (with_write r i t) { phase = Chosen })
  Marks : (p : Plan) (i : ℕ) → IsNewlyMarked r w p i → Change r w (with_marked r i)
