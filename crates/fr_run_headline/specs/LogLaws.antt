-- What the logs of a run hold, what a lock fixes, and the end that is taken from it.
use Rattle.fr_run.specs.StateLaws.{IsConfig}
use Rattle.std.specs.Prelude.{Option, None, ◌≡◌, ◌<◌, ◌≤◌, ◌+◌, ℕ, true, List, Some, IsSome, IsTrue, All}
use Rattle.fr_base.specs.declared.place.NodeId.{NodeId}
use Rattle.fr_base.specs.declared.place.NodeId.TheVariants as node
use Rattle.fr_log.specs.LogState.{durable_of, known_of}
use Rattle.fr_log.specs.declared.ask.LogTell.TheVariants.{Locked}
use Rattle.fr_log.specs.declared.popped.PoppedTag.{PoppedTag}
use Rattle.fr_log.specs.Seed.{SeedContent}
use Rattle.fr_log.specs.Push.{PushContent}
use Rattle.fr_log.specs.declared.ask.LogAsk.TheVariants.{Seed, Push}
use Rattle.fr_ask.specs.declared.ask.Ask.TheVariants as ask
use Rattle.fr_ask.specs.declared.tell.Tell.TheVariants as tell
use Rattle.fr_epoch.specs.Recoverer.{RecState, Parent, Plan}
use Rattle.fr_epoch.specs.EndTally.{EndState, new_end, is_covered, pev_of, rv_of}
use Rattle.fr_run.specs.Config.{Config}
use Rattle.fr_run.specs.Turn.{Turn, Sent, Told}
use Rattle.fr_run.specs.Nodes.{rec_at, logs_at, log_at}
use Rattle.fr_run_headline.specs.Logs.{IsOfEpoch, IsSeedOf, IsLogOf}
use Rattle.fr_run_headline.specs.Numbers.{top_at}
use Rattle.fr_run.specs.Run.{IsRun}

-- each push that was sent to a log is of the log's epoch, and each seed
abbrev pub PushesAreOwn : Type 0
PushesAreOwn = (c : Config) (h : List Turn) → IsRun c h → (from : NodeId) (e i : ℕ) (q : PushContent) → Sent h from (node.Log e i) (ask.Log (Push q)) → IsOfEpoch c h e q

abbrev pub SeedsAreOwn : Type 0
SeedsAreOwn = (c : Config) (h : List Turn) → IsRun c h → (from : NodeId) (e i : ℕ) (s : SeedContent) → Sent h from (node.Log e i) (ask.Log (Seed s)) → IsSeedOf c h e s

-- each log holds its epoch's mark and numbers through its durable version, and nothing else
abbrev pub LogsAreOwn : Type 0
LogsAreOwn = (c : Config) (h : List Turn) → IsRun c h → (e i : ℕ) → i < logs_at c h e → IsLogOf c h e (log_at c h e i)

-- a log that is stopped for good, with this durable version and this known one
pub record StandsAt (c : Config) (h : List Turn) (e i durable known : ℕ) : Type 0 where
  pub there : i < logs_at c h e
  pub seeded : IsSome (log_at c h e i).seed
  pub stopped : IsTrue (log_at c h e i).stopped
  pub durable_is : durable_of (log_at c h e i) ≡ durable
  pub known_is : known_of (log_at c h e i) ≡ known

-- what a log told at a lock is so from then on
abbrev pub LockedStandsStill : Type 0
LockedStandsStill =
    (c : Config) (h : List Turn) → IsRun c h → (e i : ℕ) (to : NodeId) (durable known : ℕ) (popped : List PoppedTag)
    → Told h (node.Log e i) to (tell.Log (Locked durable known popped)) → StandsAt c h e i durable known

-- the replies that a recoverer heard, none before it has a parent
abbrev pub tally_in : Option EndState → EndState
tally_in None = new_end 0 0
tally_in (Some end) = end

abbrev pub tally : RecState → EndState
tally r = tally_in r.end

-- so is each reply that a recoverer heard from the logs of its parent
abbrev pub RepliesStandStill : Type 0
RepliesStandStill =
    (c : Config) (h : List Turn) → IsRun c h → (b : ℕ) (r : RecState) (p : Parent) → rec_at c h b ≡ Some r → r.parent ≡ Some p
    → All (λ x. StandsAt c h p.last.epoch x.log x.durable x.known) (tally r).replies

-- what a plan took from the replies: they cover and agree, and fix its first version and what it is seeded to
pub record IsEndOf (r : RecState) (q : Plan) : Type 0 where
  pub covered : is_covered (tally r) ≡ true
  pub within : pev_of (tally r) ≤ rv_of (tally r)
  pub first : q.generation.first ≡ pev_of (tally r) + 1
  pub seeded_to : q.generation.seeded_to ≡ rv_of (tally r)

abbrev pub EndIsOfReplies : Type 0
EndIsOfReplies = (c : Config) (h : List Turn) → IsRun c h → (b : ℕ) (r : RecState) (q : Plan) → rec_at c h b ≡ Some r → r.plan ≡ Some q → IsEndOf r q

-- what a plan is seeded to is not above the last version of its parent's epoch
abbrev pub SeedIsReached : Type 0
SeedIsReached =
    (c : Config) (h : List Turn) → IsConfig c → IsRun c h → (b : ℕ) (r : RecState) (p : Parent) (q : Plan) → rec_at c h b ≡ Some r → r.parent ≡ Some p → r.plan ≡ Some q
    → q.generation.seeded_to ≤ top_at c h p.last.epoch
