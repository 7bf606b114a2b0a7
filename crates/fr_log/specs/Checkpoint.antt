-- How far a log has come, and how it goes back there.
use Rattle.std.specs.Prelude.{◌≡◌, ℕ, Bool, List, ◌++◌, length, take, is_some, None, IsTrue, IsSome, if◌then◌else◌}
use Rattle.fr_log.specs.Push.{PushContent}
use Rattle.fr_log.specs.declared.popped.PoppedTag.{PoppedTag}
use Rattle.fr_log.specs.LogState.{LogState, durable_of, known_of}

-- how many pushes a log holds, how far its tags are popped, and what else tells it from itself later on
pub record LogCheckpoint : Type 0 where
  pub pushes : ℕ
  pub durable : ℕ
  pub known : ℕ
  pub seeded : Bool
  pub stopped : Bool
  pub popped : List PoppedTag

-- the place of a log
abbrev pub checkpoint_of : LogState → LogCheckpoint
checkpoint_of l = record { pushes = length l.pushes; durable = durable_of l; known = known_of l; seeded = is_some l.seed; stopped = l.stopped; popped = l.popped }

-- n is l, or l after some asks that let nothing go: nothing of l is lost
pub record Extends (l n : LogState) : Type 0 where
  pub epoch : n.epoch ≡ l.epoch
  pub index : n.index ≡ l.index
  pub m : n.m ≡ l.m
  pub k : n.k ≡ l.k
  pub seed : IsSome l.seed → n.seed ≡ l.seed
  pub pushes : (more : List PushContent) × (n.pushes ≡ l.pushes ++ more)
  pub stopped : IsTrue l.stopped → IsTrue n.stopped

-- the log of a place, of what it is later on
abbrev pub gone_back : LogCheckpoint → LogState → LogState
gone_back place n = record n { seed = (if place.seeded then n.seed else None); pushes = take place.pushes n.pushes; stopped = place.stopped; popped = place.popped }
