-- What logs let go, and states drop: no more than storage servers have for good, so that none of them ever misses it.
use Rattle.std.specs.Prelude.{◌≡◌, ◌≢◌, ◌<◌, ◌≤◌, ◌+◌, ℕ, List, length, slice_get, Some, Contains}
use Rattle.fr_state.specs.Generations.{LogGeneration}
use Rattle.fr_log.specs.declared.popped.PoppedTag.{PoppedTag}
use Rattle.fr_log.specs.declared.ask.LogAsk.TheVariants.{Peek}
use Rattle.fr_log.specs.declared.ask.LogTell.TheVariants.{Refused}
use Rattle.fr_log.specs.declared.ask.LogRefusal.TheVariants.{Removed}
use Rattle.fr_log.specs.Left.{popped_at}
use Rattle.fr_log.specs.Step.{answer_of}
use Rattle.fr_epoch.specs.declared.reply.Reply.{Reply}
use Rattle.fr_epoch.specs.Recoverer.{RecState, Parent, Plan}
use Rattle.fr_storage.specs.Storage.{own_epoch}
use Rattle.fr_run.specs.Config.{Config}
use Rattle.fr_run.specs.Turn.{Turn}
use Rattle.fr_run.specs.Nodes.{rec_at, generation_at, logs_at, log_at, storage_at}
use Rattle.fr_run.specs.Run.{IsRun}
use Rattle.fr_run.specs.States.{state_of, line_of, IsInLine}
use Rattle.fr_run.specs.StateLaws.{IsConfig}
use Rattle.fr_run_headline.specs.LogLaws.{tally}

-- a tag that is popped in an epoch has a storage server whose floor is not below, and in whose epoch's line the epoch is
pub record IsPoppedBy (c : Config) (h : List Turn) (e : ℕ) (x : PoppedTag) : Type 0 where
  pub inside : x.tag < length c.begins
  pub floor : x.version ≤ (storage_at c h x.tag).store.floor
  pub line : IsInLine c h (own_epoch (storage_at c h x.tag).state) e

abbrev pub PoppedIsSafe : Type 0
PoppedIsSafe =
    (c : Config) (h : List Turn) → IsConfig c → IsRun c h → (e i : ℕ) → i < logs_at c h e → (x : PoppedTag) → Contains (log_at c h e i).popped x → IsPoppedBy c h e x

-- the first generation that an epoch's state leaves is at the same place in the line of a storage server, which has
-- all that those before it numbered
pub record IsVisibleSafe (c : Config) (h : List Turn) (e tag : ℕ) : Type 0 where
  pub first : LogGeneration
  pub left : slice_get (line_of c h e) (state_of c h e).dropped ≡ Some first
  pub own : slice_get (line_of c h (own_epoch (storage_at c h tag).state)) (state_of c h e).dropped ≡ Some first
  pub floor : first.first ≤ (storage_at c h tag).store.floor + 1

-- so it is for each tag if an epoch's state dropped any
abbrev pub VisibleIsSafe : Type 0
VisibleIsSafe =
    (c : Config) (h : List Turn) → IsConfig c → IsRun c h → (e : ℕ) (g : LogGeneration) → generation_at c h e ≡ Some g → 1 ≤ (state_of c h e).dropped
    → (tag : ℕ) → tag < length c.begins → IsVisibleSafe c h e tag

-- no log has let go of a version above the floor of its tag's storage server
abbrev pub NothingRemovedAboveFloor : Type 0
NothingRemovedAboveFloor =
    (c : Config) (h : List Turn) → IsConfig c → IsRun c h → (e i tag : ℕ) → i < logs_at c h e → popped_at (log_at c h e i).popped tag ≤ (storage_at c h tag).store.floor

-- no storage server would be told that records from the version on that it applied are removed
abbrev pub NeverRemoved : Type 0
NeverRemoved =
    (c : Config) (h : List Turn) → IsConfig c → IsRun c h → (e i tag after most version : ℕ) → i < logs_at c h e → (storage_at c h tag).store.applied ≤ after
    → answer_of (log_at c h e i) (Peek e tag after most) ≢ Refused (Removed version)

-- nor would a log that replied to a recoverer tell it so of what it copies, which is above pev
abbrev pub CopyIsNeverRemoved : Type 0
CopyIsNeverRemoved =
    (c : Config) (h : List Turn) → IsConfig c → IsRun c h → (b : ℕ) (r : RecState) (p : Parent) (q : Plan) → rec_at c h b ≡ Some r → r.parent ≡ Some p → r.plan ≡ Some q
    → (x : Reply) → Contains (tally r).replies x → (tag after most version : ℕ) → q.tail.pev ≤ after
    → answer_of (log_at c h p.last.epoch x.log) (Peek p.last.epoch tag after most) ≢ Refused (Removed version)
