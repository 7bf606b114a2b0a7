-- Which turns may come next, and runs: lists of turns each of which may come after those before it.
use Rattle.std.specs.Prelude.{◌≡◌, ◌≢◌, ◌⊎◌, ◌<◌, ◌≤◌, ◌^◌, ◌==◌, ℕ, true, length, List, [], ◌∷◌, Option, None, Some, IsSome, IfSome, Contains}
use Rattle.std.specs.List.{list_any}
use Rattle.fr_base.specs.Shape.{IsShape}
use Rattle.fr_base.specs.declared.place.NodeId.{NodeId}
use Rattle.fr_base.specs.declared.place.NodeId.TheVariants as node
use Rattle.fr_register.specs.Cell as cell
use Rattle.fr_log.specs.Step as log
use Rattle.fr_log.specs.declared.ask.LogAsk.{LogAsk}
use Rattle.fr_log.specs.declared.ask.LogAsk.TheVariants as lask
use Rattle.fr_log.specs.declared.ask.LogTell.{LogTell}
use Rattle.fr_ask.specs.declared.ask.Ask.TheVariants as ask
use Rattle.fr_ask.specs.declared.tell.Tell.{Tell}
use Rattle.fr_ask.specs.declared.tell.Tell.TheVariants as tell
use Rattle.fr_proxy.specs.Sequencer as seq
use Rattle.fr_proxy.specs.Proxy as proxy
use Rattle.fr_epoch.specs.Recoverer.{RecState, new_recoverer}
use Rattle.fr_epoch.specs.Asks as rec
use Rattle.fr_storage.specs.Course as course
use Rattle.fr_storage.specs.Storage as storage
use Rattle.fr_storage.specs.declared.fault.StorageFault.{StorageFault}
use Rattle.fr_run.specs.Config.{Config, first_epoch}
use Rattle.fr_run.specs.Turn.{Turn, Begun, CellTurn, LogTurn, SeqTurn, Submitted, ProxyHeard, RecHeard, StorageHeard, Gone, Crashed, Sent, Told}
use Rattle.fr_run.specs.Nodes.{cell_at, rec_at, log_at, seq_at, proxy_at, storage_at, calls_of_log, is_there}

-- there, and neither crashed nor lost
pub record IsUp (c : Config) (h : List Turn) (who : NodeId) : Type 0 where
  pub there : is_there c h who ≡ true
  pub up : Contains h (Gone who) → ⊥

-- an epoch of a generation that a storage server has
abbrev pub IsOwnEpoch : storage.StorageState → ℕ → Type 0
IsOwnEpoch s e = list_any (λ g. g.epoch == e) s.state.gens ≡ true

-- a storage server may ask each log for a mark, for the records of its own tag, and, of a generation that it has, to let go of these through
-- its floor
abbrev pub StorageMayAsk : Config → List Turn → NodeId → LogAsk → Type 0
StorageMayAsk c h (node.Storage t) (lask.Peek e tag after most) = (t ≡ tag) × (t < length c.begins)
StorageMayAsk c h (node.Storage t) (lask.MarkAsked e) = t < length c.begins
StorageMayAsk c h (node.Storage t) (lask.Pop e tag through) =
    (t ≡ tag) × (t < length c.begins) × IsOwnEpoch (storage_at c h t) e × (through ≤ (storage_at c h t).store.floor)
StorageMayAsk c h from a = ⊥

-- the nodes that go: a log that is lost, and a sequencer, proxy or recoverer that crashes
abbrev pub MayGo : NodeId → Type 0
MayGo (node.Cell i) = ⊥
MayGo (node.Log e i) = Unit {0}
MayGo (node.Sequencer e) = Unit {0}
MayGo (node.Proxy e p) = Unit {0}
MayGo (node.Recoverer b) = Unit {0}
MayGo (node.Storage t) = ⊥

-- the nodes that a crash leaves as they were
abbrev pub Survives : NodeId → Type 0
Survives (node.Cell i) = Unit {0}
Survives (node.Log e i) = Unit {0}
Survives (node.Sequencer e) = ⊥
Survives (node.Proxy e p) = ⊥
Survives (node.Recoverer b) = ⊥
Survives (node.Storage t) = Unit {0}

-- why a storage server refuses a tell of a log of an epoch
abbrev pub fault_of_log : storage.StorageState → ℕ → LogTell → Option StorageFault
fault_of_log s e t = course.fault_of s (course.heard_in e t)

abbrev pub fault_of : storage.StorageState → NodeId → Tell → Option StorageFault
fault_of s (node.Log e i) (tell.Log t) = fault_of_log s e t
fault_of s from t = None

-- a hear that broke off at a version: it is not refused, and its calls can leave the store there
abbrev pub MayBreakIn : storage.StorageState → NodeId → Tell → ℕ → Type 0
MayBreakIn s (node.Log e i) (tell.Log t) version = (fault_of_log s e t ≡ None) × IsSome (storage.broken_at s.store (calls_of_log s e t) version)
MayBreakIn s from t version = version ≡ s.store.applied

abbrev pub MayBreak : Option ℕ → storage.StorageState → NodeId → Tell → Type 0
MayBreak None s from t = Unit {0}
MayBreak (Some version) s from t = MayBreakIn s from t version

pub record IsHeardBy (c : Config) (h : List Turn) (by from : NodeId) (t : Tell) : Type 0 where
  pub actor : IsUp c h by
  pub told : Told h from by t

-- a peek wants at least one record
abbrev pub WantsSome : LogAsk → Type 0
WantsSome (lask.Peek e tag after most) = 1 ≤ most
WantsSome a = Unit {0}

-- a ballot that may begin: it is not the first epoch, and within its limits
abbrev pub MayBegin : ℕ → Type 0
MayBegin b = (b ≢ first_epoch) × ((256 ≤ b) × (b < 2 ^ 48))

-- what is true of a turn that comes after h, by its kind
abbrev pub IsTurn : Config → List Turn → Turn → Type 0
IsTurn c h (Begun b shape asks) =
    (rec_at c h b ≡ None) × MayBegin b × IfSome shape IsShape × (asks ≡ rec.pending (new_recoverer b c.cells c.begins shape))
IsTurn c h (CellTurn from i a t) = (i < c.cells) × Sent h from (node.Cell i) (ask.Cell a) × (t ≡ cell.answer_of (cell_at c h i) a)
IsTurn c h (LogTurn from e i a t) =
    IsUp c h (node.Log e i) × (Sent h from (node.Log e i) (ask.Log a) ⊎ StorageMayAsk c h from a) × (t ≡ log.answer_of (log_at c h e i) a) × WantsSome a
IsTurn c h (SeqTurn from e a t) = IsUp c h (node.Sequencer e) × Sent h from (node.Sequencer e) (ask.Seq a) × (t ≡ seq.answer_of (seq_at c h e) a)
IsTurn c h (Submitted e p step batch asks) =
    IsUp c h (node.Proxy e p) × ((proxy.takes_batch (proxy_at c h e p) ≡ true) × (1 ≤ step))
    × (asks ≡ proxy.number_ask (proxy_at c h e p) (proxy.opened (proxy_at c h e p) step batch) ∷ [])
IsTurn c h (ProxyHeard e p from t outcome asks) =
    IsHeardBy c h (node.Proxy e p) from t × (outcome ≡ proxy.outcome_of (proxy_at c h e p) from t) × (asks ≡ proxy.new_asks (proxy_at c h e p) from t)
IsTurn c h (RecHeard b from t asks) =
    IsHeardBy c h (node.Recoverer b) from t × ((r : RecState) × (rec_at c h b ≡ Some r) × (asks ≡ rec.new_asks r from t))
IsTurn c h (StorageHeard tag from t taken fault) =
    IsHeardBy c h (node.Storage tag) from t × (fault ≡ fault_of (storage_at c h tag) from t) × MayBreak taken (storage_at c h tag) from t
IsTurn c h (Gone who) = IsUp c h who × MayGo who
IsTurn c h (Crashed who) = IsUp c h who × Survives who

-- each turn may come after those before it
abbrev pub IsRun : Config → List Turn → Type 0
IsRun c [] = Unit {0}
IsRun c (t ∷ h) = IsTurn c h t × IsRun c h
