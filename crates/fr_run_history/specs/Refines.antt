-- Every history of clients is one of the abstract machine.
use Rattle.std.specs.Prelude.{◌≡◌, ◌+◌, ℕ, min, unwrap_or, length, map, List, [], ◌∷◌, Option, None, Some, Contains}
use Rattle.std.specs.List.{filter_map, cons_option}
use Rattle.fr_proxy.specs.declared.outcome.Outcome.{Outcome}
use Rattle.fr_proxy.specs.declared.outcome.Outcome.TheVariants.{Waiting, Committed, Ended}
use Rattle.fr_state.specs.LookUp.{cut_of}
use Rattle.fr_storage.specs.Storage.{own_epoch}
use Rattle.fr_run.specs.Config.{Config}
use Rattle.fr_run.specs.Turn.{Turn, Begun, CellTurn, LogTurn, SeqTurn, Submitted, ProxyHeard, RecHeard, StorageHeard, Gone, Crashed}
use Rattle.fr_run.specs.Nodes.{storage_at}
use Rattle.fr_run.specs.Batches.{batches, batch_at}
use Rattle.fr_run.specs.States.{line_of, IsLatest}
use Rattle.fr_run.specs.StateLaws.{IsConfig}
use Rattle.fr_run_headline.specs.Numbers.{Numbering}
use Rattle.fr_run_headline.specs.Issued.{least_durable, committed}
use Rattle.fr_run_headline.specs.Committed.{commit_in, commit_at}
use Rattle.fr_run_outcomes.specs.Once.{IsNumberOf}
use Rattle.fr_run_history.specs.History.{Act, Turned, Read, turns, IsHistory}
use Rattle.fr_run_history.specs.Machine.{Name, Item, Machine, Seen, Taken, Acknowledged, Answered, Move, machine_after, IsMachineRun}

-- ---- what clients see of a history

abbrev pub name_at : ℕ → ℕ → ℕ → Name
name_at e proxy request = record { epoch = e; proxy = proxy; request = request }

-- of an outcome that a proxy answers to its last batch
abbrev pub seen_of : Name → Outcome → Option Seen
seen_of name Waiting = None
seen_of name (Committed version) = Some (Acknowledged name version)
seen_of name Ended = None

-- of a turn
abbrev pub seen_at : List Turn → Turn → Option Seen
seen_at h (Begun b shape asks) = None
seen_at h (CellTurn from i a t) = None
seen_at h (LogTurn from e i a t) = None
seen_at h (SeqTurn from e a t) = None
seen_at h (Submitted e p step batch asks) = Some (Taken (name_at e p (length (batches h e p) + 1)) batch)
seen_at h (ProxyHeard e p from t outcome asks) = seen_of (name_at e p (length (batches h e p))) outcome
seen_at h (RecHeard b from t asks) = None
seen_at h (StorageHeard tag from t taken fault) = None
seen_at h (Gone who) = None
seen_at h (Crashed who) = None

abbrev pub seen_by : List Act → List Seen
seen_by [] = []
seen_by (Turned t ∷ acts) = cons_option (seen_at (turns acts) t) (seen_by acts)
seen_by (Read r ∷ acts) = Answered r ∷ seen_by acts

-- ---- the machine that a moment of a run shows

-- the version through which a storage server is settled: the version applied, but not above the committed list's last one, nor above the cut of the server's own epoch
abbrev pub settled_through : Config → List Turn → ℕ → ℕ → ℕ
settled_through c h latest tag =
    min (storage_at c h tag).store.applied (min (least_durable c h latest) (unwrap_or (cut_of (line_of c h latest) (own_epoch (storage_at c h tag).state)) (least_durable c h latest)))

-- an item is that of a request, which is in the committed list: its version is the request's number, and its batch the one that the proxy took
pub record IsItemOf (c : Config) (h : List Turn) (latest : ℕ) (i : Item) : Type 0 where
  pub number : Numbering
  pub of : IsNumberOf h i.name.epoch i.name.proxy i.name.request number
  pub version : number.version ≡ i.version
  pub batch : batch_at h i.name.epoch i.name.proxy i.name.request ≡ Some i.batch
  pub listed : Contains (committed c h latest) (commit_at i.name.epoch i.version i.batch)

-- the machine's list has the batches of the committed list at their versions, each under the name of its request; it is final through the version through which that
-- list goes, and storage servers are settled as far as they are
pub record Shows (c : Config) (h : List Turn) (m : Machine) : Type 0 where
  pub latest : ℕ
  pub is_latest : IsLatest c h latest
  pub list : map (λ (i : Item). (i.version, i.batch)) m.list ≡ filter_map commit_in (committed c h latest)
  pub items : (i : Item) → Contains m.list i → IsItemOf c h latest i
  pub final : m.final ≡ least_durable c h latest
  pub settled : (tag : ℕ) → m.settled tag ≡ settled_through c h latest tag

-- a run of the machine in which clients see what they see in a history, and after which the machine is what the history's last moment shows
pub record HasMoves (c : Config) (acts : List Act) : Type 0 where
  pub moves : List Move
  pub is_run : IsMachineRun moves
  pub seen : filter_map (λ (m : Move). m.seen) moves ≡ seen_by acts
  pub shows : Shows c (turns acts) (machine_after moves)

-- each history has one
abbrev pub HistoriesAreOfMachine : Type 0
HistoriesAreOfMachine = (c : Config) (acts : List Act) → IsConfig c → IsHistory c acts → HasMoves c acts
