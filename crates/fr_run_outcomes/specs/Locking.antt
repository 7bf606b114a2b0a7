-- The second phase of a recovery comes to an end.
use Rattle.std.specs.Prelude.{◌≡◌, ◌<◌, ◌⊎◌, ◌^◌, ℕ, ◌+◌, List, length, Some, Contains}
use Rattle.fr_base.specs.declared.place.NodeId.TheVariants as node
use Rattle.fr_state.specs.Generations.{LogGeneration, CoordinatedState}
use Rattle.fr_tags.specs.Placement.{log_count}
use Rattle.fr_log.specs.LogState.{durable_of}
use Rattle.fr_epoch.specs.declared.reply.Reply.{Reply}
use Rattle.fr_epoch.specs.Recoverer.{RecState, Parent, Plan, Locking, Copying, Lost}
use Rattle.fr_epoch.specs.declared.why.LostWhy.TheVariants.{TooMany, Spent}
use Rattle.fr_run.specs.Config.{Config}
use Rattle.fr_run.specs.Turn.{Turn, Gone}
use Rattle.fr_run.specs.Nodes.{rec_at, log_at}
use Rattle.fr_run.specs.Run.{IsUp, IsRun}
use Rattle.fr_run.specs.StateLaws.{IsConfig}
use Rattle.fr_run_headline.specs.LogLaws.{tally}
use Rattle.fr_run_headline.specs.Retrievable.{lost_logs}
use Rattle.fr_run_outcomes.specs.Going.{GoesOn}

-- fewer than k logs of a generation are lost
abbrev pub IsFewLost : List Turn → LogGeneration → Type 0
IsFewLost h g = log_count g.m (lost_logs h g.epoch) < g.k

-- after a state whose last generation is this one there is room: for one more generation, and for the version of its mark
pub record HasRoomIn (c : Config) (h : List Turn) (s : CoordinatedState) (g : LogGeneration) : Type 0 where
  pub gens : length s.gens < 64
  pub versions : (i : ℕ) → i < g.m → durable_of (log_at c h g.epoch i) + 1 < 2 ^ 62

-- each log that replied to a recoverer is up
abbrev pub RepliedAreUp : List Turn → Parent → RecState → Type 0
RepliedAreUp h p r = (x : Reply) → Contains (tally r).replies x → Contains h (Gone (node.Log p.last.epoch x.log)) → ⊥

-- a recoverer has a plan, from the end of the epoch that it knows, and copies
abbrev pub HasPlan : RecState → Type 0
HasPlan r = (r.phase ≡ Copying) × ((q : Plan) × (r.plan ≡ Some q))

-- a recoverer has found that there is no room, for one more generation or for one more version
abbrev pub HasNoRoom : RecState → Type 0
HasNoRoom r = (r.phase ≡ Lost TooMany) ⊎ (r.phase ≡ Lost Spent)

-- it has found so, and there was none at an earlier moment, after the state that it read
pub record LacksRoom (c : Config) (h : List Turn) (p : Parent) (r : RecState) : Type 0 where
  pub found : HasNoRoom r
  pub never : HasRoomIn c h p.state p.last → ⊥

-- a run goes on by own turns of a ballot to a moment at which its recoverer has a plan, or there was no room at the start; if
-- each log that had replied is up, each that replied by then is
pub record LocksOn (c : Config) (h : List Turn) (b : ℕ) (p : Parent) (r : RecState) : Type 0 where
  pub later : List Turn
  pub goes_on : GoesOn c b h later
  pub recoverer : RecState
  pub at : rec_at c later b ≡ Some recoverer
  pub parent : recoverer.parent ≡ Some p
  pub ended : HasPlan recoverer ⊎ LacksRoom c h p recoverer
  pub replied : RepliedAreUp h p r → RepliedAreUp later p recoverer

-- so does each one in which a recoverer is up that locks the logs of a generation of which fewer than k are lost
abbrev pub LockingEnds : Type 0
LockingEnds =
    (c : Config) (h : List Turn) → IsConfig c → IsRun c h → (b : ℕ) (r : RecState) (p : Parent) → rec_at c h b ≡ Some r → r.phase ≡ Locking → r.parent ≡ Some p
    → IsUp c h (node.Recoverer b) → IsFewLost h p.last → LocksOn c h b p r
