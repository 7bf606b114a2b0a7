-- A batch that is submitted comes to be committed and stored.
use Rattle.std.specs.Prelude.{◌≡◌, ◌<◌, ◌≤◌, ◌^◌, ℕ, ◌+◌, true, false, List, length, Some}
use Rattle.fr_base.specs.declared.place.NodeId.TheVariants as node
use Rattle.fr_mutation.specs.declared.mutation.Mutation.{Mutation}
use Rattle.fr_log.specs.LogState.{durable_of}
use Rattle.fr_proxy.specs.Proxy.{takes_batch}
use Rattle.fr_run.specs.Batches.{batch_at}
use Rattle.fr_run.specs.Config.{Config}
use Rattle.fr_run.specs.Turn.{Turn}
use Rattle.fr_run.specs.Nodes.{is_open, logs_at, log_at, proxy_at, storage_at}
use Rattle.fr_run.specs.Run.{IsUp, IsRun}
use Rattle.fr_run.specs.StateLaws.{IsConfig}
use Rattle.fr_run.specs.States.{IsLatest}
use Rattle.fr_run_headline.specs.Issued.{least_durable}
use Rattle.fr_run_headline.specs.Numbers.{top_at}
use Rattle.fr_run_headline.specs.Retrievable.{AreFewLost}
use Rattle.fr_run_outcomes.specs.Going.{GoesOn, LeavesChosen}
use Rattle.fr_run_outcomes.specs.Once.{IsAnswered}
use Rattle.fr_run_outcomes.specs.Pulling.{IsServed}
use Rattle.fr_run_commits.specs.Going.{TurnsOf}

-- an epoch serves, with no batch in flight: it is the latest that is chosen, and open; its sequencer and its logs are up; no
-- log is locked, and each holds the last version numbered, or the mark
pub record IsServing (c : Config) (h : List Turn) (e : ℕ) : Type 0 where
  pub latest : IsLatest c h e
  pub opened : is_open c h e ≡ true
  pub sequencer : IsUp c h (node.Sequencer e)
  pub logs : (i : ℕ) → i < logs_at c h e → IsUp c h (node.Log e i)
  pub running : (i : ℕ) → i < logs_at c h e → (log_at c h e i).stopped ≡ false
  pub whole : (i : ℕ) → i < logs_at c h e → top_at c h e ≤ durable_of (log_at c h e i)

-- a run goes on by own turns of a batch to a moment at which its proxy answers that it is committed, at the version that this
-- step gives
pub record AnswersOn (c : Config) (h : List Turn) (e p step : ℕ) (batch : List Mutation) : Type 0 where
  pub later : List Turn
  pub goes_on : TurnsOf c e p batch h later
  pub leaves : LeavesChosen c h later
  pub taken : batch_at later e p ((proxy_at c h e p).requests + 1) ≡ Some batch
  pub answered : IsAnswered c later e p ((proxy_at c h e p).requests + 1) (top_at c h e + step)

-- so does each one in which an epoch serves, for each of its proxies that is up and takes a batch, and each step up to
-- 1,000,000, if there is room for the version
abbrev pub NextIsAnswered : Type 0
NextIsAnswered =
    (c : Config) (h : List Turn) → IsConfig c → IsRun c h → (e : ℕ) → IsServing c h e → (p step : ℕ) (batch : List Mutation) → IsUp c h (node.Proxy e p)
    → takes_batch (proxy_at c h e p) ≡ true → 1 ≤ step → step ≤ 1000000 → top_at c h e + step < 2 ^ 62 → AnswersOn c h e p step batch

-- and then on, by turns of storage servers and logs, to one at which every server has applied the version
pub record CommitsOn (c : Config) (h : List Turn) (e p step : ℕ) (batch : List Mutation) : Type 0 where
  pub answer : AnswersOn c h e p step batch
  pub later : List Turn
  pub goes_on : (b : ℕ) → GoesOn c b answer.later later
  pub latest : IsLatest c later e
  pub committed : top_at c h e + step ≤ least_durable c later e
  pub each : (tag : ℕ) → tag < length c.begins → IsServed c later e tag
  pub applied : (tag : ℕ) → tag < length c.begins → top_at c h e + step ≤ (storage_at c later tag).store.applied

-- so does each one, if of each generation of the epoch's state fewer than k logs are lost
abbrev pub NextIsCommitted : Type 0
NextIsCommitted =
    (c : Config) (h : List Turn) → IsConfig c → IsRun c h → (e : ℕ) → IsServing c h e → AreFewLost c h e → (p step : ℕ) (batch : List Mutation) → IsUp c h (node.Proxy e p)
    → takes_batch (proxy_at c h e p) ≡ true → 1 ≤ step → step ≤ 1000000 → top_at c h e + step < 2 ^ 62 → CommitsOn c h e p step batch
