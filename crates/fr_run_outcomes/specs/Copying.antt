-- The third phase of a recovery comes to an end: all is copied, and then all new logs are seeded.
use Rattle.std.specs.Prelude.{◌≡◌, ◌<◌, ℕ, true, List, length, Some, Contains}
use Rattle.fr_base.specs.declared.place.NodeId.TheVariants as node
use Rattle.fr_tags.specs.Placement.{is_held}
use Rattle.fr_epoch.specs.Recoverer.{RecState, Parent, Plan, Copying, Writing, is_copied}
use Rattle.fr_run.specs.Config.{Config}
use Rattle.fr_run.specs.Turn.{Turn, Gone}
use Rattle.fr_run.specs.Nodes.{rec_at}
use Rattle.fr_run.specs.Run.{IsUp, IsRun}
use Rattle.fr_run.specs.StateLaws.{IsConfig}
use Rattle.fr_run_outcomes.specs.Going.{GoesOn}

-- a log that replied, holds a tag and is up
pub record HolderIsUp (h : List Turn) (p : Parent) (q : Plan) (tag : ℕ) : Type 0 where
  pub log : ℕ
  pub replied : Contains q.tail.responders log
  pub holds : is_held tag q.tail.m q.tail.k log ≡ true
  pub up : Contains h (Gone (node.Log p.last.epoch log)) → ⊥

-- a run goes on by own turns of a ballot to a moment at which its recoverer has copied all that its epoch takes over
pub record CopiesOn (c : Config) (h : List Turn) (b : ℕ) : Type 0 where
  pub later : List Turn
  pub goes_on : GoesOn c b h later
  pub recoverer : RecState
  pub at : rec_at c later b ≡ Some recoverer
  pub copying : recoverer.phase ≡ Copying
  pub copied : is_copied recoverer ≡ true

-- so does each one in which a recoverer is up that copies, if of each tag a log that replied to it and holds the tag is up
abbrev pub CopyingEnds : Type 0
CopyingEnds =
    (c : Config) (h : List Turn) → IsConfig c → IsRun c h → (b : ℕ) (r : RecState) (p : Parent) (q : Plan) → rec_at c h b ≡ Some r → r.phase ≡ Copying → r.parent ≡ Some p → r.plan ≡ Some q
    → IsUp c h (node.Recoverer b) → ((tag : ℕ) → tag < length c.begins → HolderIsUp h p q tag) → CopiesOn c h b

-- a run goes on by own turns of a ballot to a moment at which all logs of its generation are seeded, and its recoverer writes its state
pub record SeedsOn (c : Config) (h : List Turn) (b : ℕ) : Type 0 where
  pub later : List Turn
  pub goes_on : GoesOn c b h later
  pub recoverer : RecState
  pub at : rec_at c later b ≡ Some recoverer
  pub writing : recoverer.phase ≡ Writing

-- so does each one in which a recoverer is up whose copy is complete, if no log of its new generation is lost
abbrev pub SeedingEnds : Type 0
SeedingEnds =
    (c : Config) (h : List Turn) → IsConfig c → IsRun c h → (b : ℕ) (r : RecState) → rec_at c h b ≡ Some r → r.phase ≡ Copying → is_copied r ≡ true
    → IsUp c h (node.Recoverer b) → ((i : ℕ) → Contains h (Gone (node.Log b i)) → ⊥) → SeedsOn c h b
