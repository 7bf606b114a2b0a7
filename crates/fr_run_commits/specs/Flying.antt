-- Batches in flight: those that an epoch numbered, and that some of its logs do not hold yet, come to be held by all.
use Rattle.std.specs.Prelude.{◌≡◌, ◌<◌, ◌≤◌, ◌^◌, ℕ, ◌+◌, true, false, List, ◌++◌, Some, IsSome, All, Contains}
use Rattle.fr_base.specs.declared.place.NodeId.{NodeId}
use Rattle.fr_base.specs.declared.place.NodeId.TheVariants as node
use Rattle.fr_mutation.specs.declared.mutation.Mutation.{Mutation}
use Rattle.fr_log.specs.LogState.{durable_of, mark_among}
use Rattle.fr_proxy.specs.Proxy.{Open, takes_batch}
use Rattle.fr_run.specs.Config.{Config}
use Rattle.fr_run.specs.Turn.{Turn, Begun, CellTurn, LogTurn, SeqTurn, Submitted, ProxyHeard, RecHeard, StorageHeard, Gone, Crashed}
use Rattle.fr_run.specs.Nodes.{is_open, logs_at, log_at, proxy_at}
use Rattle.fr_run.specs.Run.{IsUp, IsRun}
use Rattle.fr_run.specs.StateLaws.{IsConfig}
use Rattle.fr_run.specs.States.{IsLatest}
use Rattle.fr_run_headline.specs.Numbers.{Numbering, numbers, top_at}
use Rattle.fr_run_headline.specs.Retrievable.{AreFewLost}
use Rattle.fr_run_outcomes.specs.Going.{LeavesChosen}
use Rattle.fr_run_commits.specs.Committing.{IsServing, CommitsOn}

-- a proxy of an epoch
abbrev pub IsProxyOf : ℕ → NodeId → Type 0
IsProxyOf e (node.Cell i) = ⊥
IsProxyOf e (node.Log x i) = ⊥
IsProxyOf e (node.Sequencer x) = ⊥
IsProxyOf e (node.Proxy x q) = x ≡ e
IsProxyOf e (node.Recoverer b) = ⊥
IsProxyOf e (node.Storage t) = ⊥

-- the turns by which batches in flight land: a log is asked by a proxy of its epoch, or such a proxy hears what it is told
abbrev pub IsLanding : ℕ → Turn → Type 0
IsLanding e (Begun b shape asks) = ⊥
IsLanding e (CellTurn from i a t) = ⊥
IsLanding e (LogTurn from x i a t) = IsProxyOf e from
IsLanding e (SeqTurn from x a t) = ⊥
IsLanding e (Submitted x q step taken asks) = ⊥
IsLanding e (ProxyHeard x q from t outcome asks) = x ≡ e
IsLanding e (RecHeard b from t asks) = ⊥
IsLanding e (StorageHeard tag from t taken fault) = ⊥
IsLanding e (Gone who) = ⊥
IsLanding e (Crashed who) = ⊥

-- the proxy of a number is up and has the batch under way, and takes the number
pub record IsUnderWay (c : Config) (h : List Turn) (e : ℕ) (n : Numbering) : Type 0 where
  pub up : IsUp c h (node.Proxy e n.proxy)
  pub open_batch : Open
  pub under_way : (proxy_at c h e n.proxy).under_way ≡ Some open_batch
  pub request : open_batch.request ≡ n.request
  pub step : n.version ≤ n.prev + 1000000

-- an epoch serves, perhaps with batches in flight: it is the latest that is chosen, and open. Its sequencer is up, and so is
-- each of its logs. None of these is locked, and each has the mark. The proxy of each number that some log lacks is up, and
-- has the batch under way
pub record IsInFlight (c : Config) (h : List Turn) (e : ℕ) : Type 0 where
  pub latest : IsLatest c h e
  pub opened : is_open c h e ≡ true
  pub sequencer : IsUp c h (node.Sequencer e)
  pub logs : (i : ℕ) → i < logs_at c h e → IsUp c h (node.Log e i)
  pub running : (i : ℕ) → i < logs_at c h e → (log_at c h e i).stopped ≡ false
  pub marked : (i : ℕ) → i < logs_at c h e → IsSome (mark_among (log_at c h e i).pushes)
  pub flight : (n : Numbering) → Contains (numbers h e) n → (i : ℕ) → i < logs_at c h e → durable_of (log_at c h e i) < n.version → IsUnderWay c h e n

-- a run goes on by such turns to a moment at which the epoch serves and nothing is in flight. On the way nothing was
-- numbered, and each proxy that takes a batch stayed as it was
pub record LandsOn (c : Config) (h : List Turn) (e : ℕ) : Type 0 where
  pub later : List Turn
  pub more : List Turn
  pub is : more ++ h ≡ later
  pub is_run : IsRun c later
  pub landing : All (IsLanding e) more
  pub leaves : LeavesChosen c h later
  pub serving : IsServing c later e
  pub top : top_at c later e ≡ top_at c h e
  pub idle : (p : ℕ) → takes_batch (proxy_at c h e p) ≡ true → proxy_at c later e p ≡ proxy_at c h e p

-- so does each one in which an epoch serves
abbrev pub FlightLands : Type 0
FlightLands = (c : Config) (h : List Turn) → IsConfig c → IsRun c h → (e : ℕ) → IsInFlight c h e → LandsOn c h e

-- and from there the next batch is committed and stored
pub record LandsAndCommits (c : Config) (h : List Turn) (e p step : ℕ) (batch : List Mutation) : Type 0 where
  pub lands : LandsOn c h e
  pub commits : CommitsOn c lands.later e p step batch

abbrev pub CommitsGoOn : Type 0
CommitsGoOn =
    (c : Config) (h : List Turn) → IsConfig c → IsRun c h → (e : ℕ) → IsInFlight c h e → AreFewLost c h e → (p step : ℕ) (batch : List Mutation) → IsUp c h (node.Proxy e p)
    → takes_batch (proxy_at c h e p) ≡ true → 1 ≤ step → step ≤ 1000000 → top_at c h e + step < 2 ^ 62 → LandsAndCommits c h e p step batch
