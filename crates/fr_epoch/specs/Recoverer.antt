-- The state of a recoverer.
use Rattle.std.specs.Prelude.{ℕ, ◌+◌, Bool, false, ◌&&◌, nat_le, List, [], length, Option, None, Some}
use Rattle.fr_base.specs.Shape.{ShapeContent}
use Rattle.fr_register.specs.Poll.{ReadState, WriteState}
use Rattle.fr_register.specs.Tally.{new_read, new_write}
use Rattle.fr_state.specs.Generations.{LogGeneration, CoordinatedState}
use Rattle.fr_log.specs.Push.{PushContent}
use Rattle.fr_log.specs.declared.popped.PoppedTag.{PoppedTag}
use Rattle.fr_tail.specs.Tail.{TailState, is_complete}
use Rattle.fr_epoch.specs.EndTally.{EndState}
use Rattle.fr_epoch.specs.declared.why.LostWhy.{LostWhy}

-- how far a recoverer has come
pub data Phase : Type 0 where
  Reading : Phase
  Locking : Phase
  Copying : Phase
  Writing : Phase
  Chosen : Phase
  Lost : (why : LostWhy) → Phase

-- what a recoverer took over: the parent state, and its last generation, whose logs are to be locked
pub record Parent : Type 0 where
  pub state : CoordinatedState
  pub last : LogGeneration

-- what it is going to write, from the moment that the replies cover: the state, the generation that is the last in it, and the copy
-- of what that one takes over
pub record Plan : Type 0 where
  pub state : CoordinatedState
  pub generation : LogGeneration
  pub tail : TailState

-- a recoverer: its ballot, where the shards begin, the shape that the next generation is to have if one was given, and
-- how far it is. It has its tally of promises, what they told, and from the moment that it has a parent the replies to
-- its locks, with what these showed popped, one reply after the other. It has its plan, the new logs that are seeded,
-- its tally of writes, and the new logs that hold the mark. One that is lost keeps all but its phase
pub record RecState : Type 0 where
  pub ballot : ℕ
  pub begins : List (List ℕ)
  pub shape : Option ShapeContent
  pub phase : Phase
  pub reads : ReadState
  pub parent : Option Parent
  pub end : Option EndState
  pub shown : List PoppedTag
  pub plan : Option Plan
  pub seeded : List ℕ
  pub writes : WriteState
  pub marked : List ℕ

-- a recoverer that heard nothing, over so many cells
abbrev pub new_recoverer : ℕ → ℕ → List (List ℕ) → Option ShapeContent → RecState
new_recoverer ballot cells begins shape = record {
  ballot = ballot;
  begins = begins;
  shape = shape;
  phase = Reading;
  reads = new_read cells ballot;
  parent = None;
  end = None;
  shown = [];
  plan = None;
  seeded = [];
  writes = new_write cells ballot;
  marked = [];
}

-- whether the copy is complete; not before there is a plan
abbrev pub is_copied_in : Option Plan → Bool
is_copied_in None = false
is_copied_in (Some p) = is_complete p.tail

abbrev pub is_copied : RecState → Bool
is_copied r = is_copied_in r.plan

-- whether the state may be written: the copy is complete, and all new logs are seeded
abbrev pub is_written_in : Option Plan → List ℕ → Bool
is_written_in None seeded = false
is_written_in (Some p) seeded = is_complete p.tail && nat_le p.generation.m (length seeded)

abbrev pub is_written : RecState → Bool
is_written r = is_written_in r.plan r.seeded

-- the mark of a plan, which begins the chain of each new log
abbrev pub mark_of : Plan → PushContent
mark_of p = record {
  epoch = p.generation.epoch;
  prev = p.generation.seeded_to;
  version = p.generation.seeded_to + 1;
  known = p.tail.pev;
  bodies = [];
  mark = Some p.state;
}
