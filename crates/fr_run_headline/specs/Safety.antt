-- All that is promised of one moment of a run, in one record; and what each moment keeps of the one before.
use Rattle.std.specs.Prelude.{◌≡◌, ◌≢◌, ◌<◌, ◌≤◌, ℕ, true, List, ◌∷◌, ◌++◌, length, Option, Some, IsSome, IfSome, Contains}
use Rattle.fr_base.specs.declared.place.NodeId.{NodeId}
use Rattle.fr_log.specs.Push.{PushContent}
use Rattle.fr_log.specs.LogState.{known_of, durable_of}
use Rattle.fr_log.specs.declared.ask.LogAsk.TheVariants.{Peek}
use Rattle.fr_log.specs.declared.ask.LogTell.TheVariants.{Refused}
use Rattle.fr_log.specs.declared.ask.LogRefusal.TheVariants.{Removed}
use Rattle.fr_log.specs.Left.{popped_at}
use Rattle.fr_log.specs.Step.{answer_of}
use Rattle.fr_ask.specs.declared.tell.Tell.{Tell}
use Rattle.fr_epoch.specs.EndTally.{is_covered, pev_of, rv_of}
use Rattle.fr_epoch.specs.declared.reply.Reply.{Reply}
use Rattle.fr_epoch.specs.Recoverer.{RecState, Parent, Plan, Lost}
use Rattle.fr_epoch.specs.declared.why.LostWhy.TheVariants.{Inconsistent}
use Rattle.fr_storage.specs.declared.fault.StorageFault.{StorageFault}
use Rattle.fr_storage.specs.declared.fault.StorageFault.TheVariants.{Stranger, BelowFloor}
use Rattle.fr_storage.specs.Storage.{own_epoch}
use Rattle.fr_run.specs.Config.{Config}
use Rattle.fr_run.specs.Turn.{Turn, StorageHeard}
use Rattle.fr_run.specs.Nodes.{rec_at, logs_at, log_at, storage_at}
use Rattle.fr_run.specs.Run.{IsRun}
use Rattle.fr_run.specs.Batches.{IsAcknowledged}
use Rattle.fr_run.specs.States.{state_of, IsChosenEpoch, IsLatest}
use Rattle.fr_run.specs.StateLaws.{IsConfig}
use Rattle.fr_run_headline.specs.LogLaws.{tally}
use Rattle.fr_run_headline.specs.BehindLaws.{IsReplied, IsTakenOver}
use Rattle.fr_run_headline.specs.Issued.{Entry, least_durable, committed}
use Rattle.fr_run_headline.specs.Contents.{HasParts, HasLeft}
use Rattle.fr_run_headline.specs.Committed.{IsFollowing, RolledBackIsExact, HasCommitted, HasBatch, AcknowledgedIsNeverUndone}
use Rattle.fr_run_headline.specs.Order.{IsNeverCut}
use Rattle.fr_run_headline.specs.Retrievable.{AreFewLost, IsRetrievable}

-- the order of versions. What a log knows each seeded log of the epoch holds. What is known, what was acknowledged and
-- each floor no recovery cuts off. No recoverer finds its replies at odds. A log holds pushes, its mark among them,
-- only of an epoch that is chosen. A seeded log holds exactly its tags' parts of what its epoch issues; of these, once
-- it let go of what it may, what is above the version that is popped of the tag
pub record AreOrdered (c : Config) (h : List Turn) : Type 0 where
  pub durable : (e i j : ℕ) → i < logs_at c h e → j < logs_at c h e → IsSome (log_at c h e j).seed → known_of (log_at c h e i) ≤ durable_of (log_at c h e j)
  pub known : (e i : ℕ) → i < logs_at c h e → IsNeverCut c h e (known_of (log_at c h e i))
  pub acknowledged : (e version : ℕ) → IsAcknowledged h e version → IsNeverCut c h e version
  pub floors : (tag : ℕ) → IsNeverCut c h (own_epoch (storage_at c h tag).state) (storage_at c h tag).store.floor
  pub consistent : (b : ℕ) (r : RecState) → rec_at c h b ≡ Some r → r.phase ≢ Lost Inconsistent
  pub marks : (e i : ℕ) (q : PushContent) → i < logs_at c h e → Contains (log_at c h e i).pushes q → IsChosenEpoch c h e × IfSome q.mark (λ x. x ≡ state_of c h e)
  pub parts : (e i : ℕ) → i < logs_at c h e → IfSome (log_at c h e i).seed (HasParts c h e i (log_at c h e i))
  pub left : (e i : ℕ) → i < logs_at c h e → IfSome (log_at c h e i).seed (HasLeft c h e i (log_at c h e i))

-- all of it, over whatever happened: what a recovery takes over, what storage servers hold, what is committed, and what can be retrieved
pub record IsSafe (c : Config) (h : List Turn) : Type 0 where
  -- the order of versions
  pub order : AreOrdered c h
  -- replies that cover agree: what one log knows to be committed, each that replied holds
  pub replies : (b : ℕ) (r : RecState) → rec_at c h b ≡ Some r → is_covered (tally r) ≡ true → pev_of (tally r) ≤ rv_of (tally r)
  -- what was acknowledged in any epoch, each log that replied to a later recoverer holds
  pub replied : (e version : ℕ) → IsAcknowledged h e version → IsReplied c h e version
  -- so it is at most the recovery version of each later epoch, and of each later recoverer whose replies cover, also of one that is then lost
  pub taken_over : (e version : ℕ) → IsAcknowledged h e version → IsTakenOver c h e version
  -- and so is the floor of each storage server
  pub floors_taken_over : (tag : ℕ) → IsTakenOver c h (own_epoch (storage_at c h tag).state) (storage_at c h tag).store.floor
  -- every storage server follows its own epoch
  pub follows : (tag : ℕ) → IsFollowing c h tag (storage_at c h tag)
  -- and no hear of one was ever refused as that of a stranger, or below the floor
  pub heard : (tag : ℕ) (from : NodeId) (tell : Tell) (taken : Option ℕ) (fault : Option StorageFault) → Contains h (StorageHeard tag from tell taken fault) → (fault ≢ Some Stranger) × (fault ≢ Some BelowFloor)
  -- one that has just rolled back holds exactly its shard of what is committed
  pub rolled_back : RolledBackIsExact c h
  -- what was acknowledged has its batch, in the committed list
  pub batches : (e version : ℕ) → IsAcknowledged h e version → HasBatch c h e version
  -- no acknowledged batch is ever undone
  pub acknowledged : AcknowledgedIsNeverUndone c h
  -- while fewer than k logs of each generation are lost, each committed version above the floor of a tag's storage server can be retrieved for the tag
  pub retrievable : (latest : ℕ) → IsLatest c h latest → AreFewLost c h latest → (tag : ℕ) → tag < length c.begins
      → (version : ℕ) → (storage_at c h tag).store.floor < version → version ≤ least_durable c h latest → IsRetrievable c h latest tag version
  -- no log has let go of a version above the floor of its tag's storage server
  pub removed : (e i tag : ℕ) → i < logs_at c h e → popped_at (log_at c h e i).popped tag ≤ (storage_at c h tag).store.floor
  -- so none would tell one that what it asks for is removed
  pub never_removed : (e i tag after most version : ℕ) → i < logs_at c h e → (storage_at c h tag).store.applied ≤ after
      → answer_of (log_at c h e i) (Peek e tag after most) ≢ Refused (Removed version)
  -- nor would one that replied to a recoverer tell it so of what it copies, which is above pev
  pub copies : (b : ℕ) (r : RecState) (p : Parent) (q : Plan) → rec_at c h b ≡ Some r → r.parent ≡ Some p → r.plan ≡ Some q
      → (x : Reply) → Contains (tally r).replies x → (tag after most version : ℕ) → q.tail.pev ≤ after
      → answer_of (log_at c h p.last.epoch x.log) (Peek p.last.epoch tag after most) ≢ Refused (Removed version)
  -- there is a committed list: its versions rise, through one that each log of its epoch has come to
  pub committed : HasCommitted c h

-- every moment of every run is safe
abbrev pub EveryMomentIsSafe : Type 0
EveryMomentIsSafe = (c : Config) (h : List Turn) → IsConfig c → IsRun c h → IsSafe c h

-- the committed list of one moment begins with that of another
abbrev pub IsGrownFrom : Config → List Turn → List Turn → Type 0
IsGrownFrom c h later = (a b : ℕ) → IsLatest c h a → IsLatest c later b → (rest : List Entry) × (committed c h a ++ rest ≡ committed c later b)

-- that of a turn later does
abbrev pub EachTurnGrows : Type 0
EachTurnGrows = (c : Config) (h : List Turn) (t : Turn) → IsConfig c → IsRun c (t ∷ h) → IsGrownFrom c h (t ∷ h)

-- and that of the same moment
abbrev pub StandingGrows : Type 0
StandingGrows = (c : Config) (h : List Turn) → IsConfig c → IsRun c h → IsGrownFrom c h h
