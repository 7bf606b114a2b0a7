-- What recoverers were shown popped is popped, and they drop no generation that some tag is not popped through.
use Rattle.std.specs.Prelude.{◌≡◌, ◌<◌, ◌-◌, ℕ, List, length, slice_get, Some, Contains}
use Rattle.fr_base.specs.declared.place.NodeId.{NodeId}
use Rattle.fr_base.specs.declared.place.NodeId.TheVariants as node
use Rattle.fr_state.specs.Generations.{LogGeneration}
use Rattle.fr_log.specs.declared.popped.PoppedTag.{PoppedTag}
use Rattle.fr_log.specs.declared.ask.LogTell.TheVariants.{Locked}
use Rattle.fr_ask.specs.declared.tell.Tell.TheVariants as tell
use Rattle.fr_epoch.specs.Recoverer.{RecState, Parent, Plan}
use Rattle.fr_epoch.specs.DroppingLaws.{IsShownFrom}
use Rattle.fr_run.specs.Config.{Config}
use Rattle.fr_run.specs.Turn.{Turn, Told}
use Rattle.fr_run.specs.Nodes.{rec_at, logs_at, log_at}
use Rattle.fr_run.specs.Run.{IsRun}
use Rattle.fr_run.specs.StateLaws.{IsConfig}

-- some log of an epoch has a tag popped at least so far
pub record IsPoppedIn (c : Config) (h : List Turn) (e tag version : ℕ) : Type 0 where
  pub log : ℕ
  pub there : log < logs_at c h e
  pub popped : IsShownFrom (log_at c h e log).popped tag version

-- what a log told at a lock to be popped is, from then on
abbrev pub LockedIsPopped : Type 0
LockedIsPopped =
    (c : Config) (h : List Turn) → IsRun c h → (e i : ℕ) (to : NodeId) (durable known : ℕ) (popped : List PoppedTag)
    → Told h (node.Log e i) to (tell.Log (Locked durable known popped)) → (x : PoppedTag) → Contains popped x → IsPoppedIn c h e x.tag x.version

-- so is what was shown to a recoverer, in the epoch that it ends
abbrev pub ShownIsPopped : Type 0
ShownIsPopped =
    (c : Config) (h : List Turn) → IsConfig c → IsRun c h → (b : ℕ) (r : RecState) (p : Parent) → rec_at c h b ≡ Some r → r.parent ≡ Some p
    → (x : PoppedTag) → Contains r.shown x → IsPoppedIn c h p.last.epoch x.tag x.version

-- the first generation that a plan leaves starts at most one version above what some log of the epoch that it ends has popped of a tag
pub record IsDroppedBy (c : Config) (h : List Turn) (p : Parent) (q : Plan) (tag : ℕ) : Type 0 where
  pub first : LogGeneration
  pub left : slice_get q.state.gens 0 ≡ Some first
  pub starts : IsPoppedIn c h p.last.epoch tag (first.first - 1)

-- it does so for each tag if the plan drops any
abbrev pub DropsArePopped : Type 0
DropsArePopped =
    (c : Config) (h : List Turn) → IsConfig c → IsRun c h → (b : ℕ) (r : RecState) (p : Parent) (q : Plan) → rec_at c h b ≡ Some r → r.parent ≡ Some p → r.plan ≡ Some q
    → p.state.dropped < q.state.dropped → (tag : ℕ) → tag < length c.begins → IsDroppedBy c h p q tag
