-- The turns of a world: what happened, with what it gave. A list of turns has the newest first.
use Rattle.std.specs.Prelude.{◌≡◌, ◌⊎◌, ℕ, List, [], ◌∷◌, Option, Contains}
use Rattle.fr_base.specs.Shape.{ShapeContent}
use Rattle.fr_base.specs.declared.place.NodeId.{NodeId}
use Rattle.fr_base.specs.declared.place.NodeId.TheVariants as node
use Rattle.fr_mutation.specs.declared.mutation.Mutation.{Mutation}
use Rattle.fr_register.specs.declared.ask.CellAsk.{CellAsk}
use Rattle.fr_register.specs.declared.ask.CellTell.{CellTell}
use Rattle.fr_register.specs.History as register
use Rattle.fr_log.specs.declared.ask.LogAsk.{LogAsk}
use Rattle.fr_log.specs.declared.ask.LogTell.{LogTell}
use Rattle.fr_ask.specs.declared.ask.Ask.{Ask}
use Rattle.fr_ask.specs.declared.tell.Tell.{Tell}
use Rattle.fr_ask.specs.declared.tell.Tell.TheVariants as tell
use Rattle.fr_ask.specs.declared.sequencer.SeqAsk.{SeqAsk}
use Rattle.fr_ask.specs.declared.sequencer.SeqTell.{SeqTell}
use Rattle.fr_proxy.specs.declared.outcome.Outcome.{Outcome}
use Rattle.fr_storage.specs.declared.fault.StorageFault.{StorageFault}

-- an ask with the node that it goes to
abbrev pub Sending : Type 0
Sending = NodeId × Ask

pub data Turn : Type 0 where
  -- a recoverer begins, to open a generation of a shape, or if none is given one of the shape that the one before has
  Begun : (ballot : ℕ) (shape : Option ShapeContent) (asks : List Sending) → Turn
  -- an ask comes to a cell, a log or a sequencer, which tells
  CellTurn : (from : NodeId) (cell : ℕ) (ask : CellAsk) (tell : CellTell) → Turn
  LogTurn : (from : NodeId) (epoch log : ℕ) (ask : LogAsk) (tell : LogTell) → Turn
  SeqTurn : (from : NodeId) (epoch : ℕ) (ask : SeqAsk) (tell : SeqTell) → Turn
  -- a proxy takes a batch
  Submitted : (epoch proxy step : ℕ) (batch : List Mutation) (asks : List Sending) → Turn
  -- a tell comes to a proxy, a recoverer or a storage server, which may break off its hear at a version
  ProxyHeard : (epoch proxy : ℕ) (from : NodeId) (tell : Tell) (outcome : Outcome) (asks : List Sending) → Turn
  RecHeard : (ballot : ℕ) (from : NodeId) (tell : Tell) (asks : List Sending) → Turn
  StorageHeard : (tag : ℕ) (from : NodeId) (tell : Tell) (taken : Option ℕ) (fault : Option StorageFault) → Turn
  -- a proxy, a sequencer or a recoverer crashes, or a log is lost
  Gone : (who : NodeId) → Turn
  -- another node crashes, which changes nothing
  Crashed : (who : NodeId) → Turn

-- the node whose turn it is
abbrev pub actor_of : Turn → NodeId
actor_of (Begun b shape asks) = node.Recoverer b
actor_of (CellTurn from i a t) = node.Cell i
actor_of (LogTurn from e i a t) = node.Log e i
actor_of (SeqTurn from e a t) = node.Sequencer e
actor_of (Submitted e p step batch asks) = node.Proxy e p
actor_of (ProxyHeard e p from t outcome asks) = node.Proxy e p
actor_of (RecHeard b from t asks) = node.Recoverer b
actor_of (StorageHeard tag from t taken fault) = node.Storage tag
actor_of (Gone who) = who
actor_of (Crashed who) = who

-- the asks that a turn gave
abbrev pub asks_of : Turn → List Sending
asks_of (Begun b shape asks) = asks
asks_of (CellTurn from i a t) = []
asks_of (LogTurn from e i a t) = []
asks_of (SeqTurn from e a t) = []
asks_of (Submitted e p step batch asks) = asks
asks_of (ProxyHeard e p from t outcome asks) = asks
asks_of (RecHeard b from t asks) = asks
asks_of (StorageHeard tag from t taken fault) = []
asks_of (Gone who) = []
asks_of (Crashed who) = []

-- ---- what was sent and told

-- a turn of this node gave this ask
abbrev pub Sent : List Turn → NodeId → NodeId → Ask → Type 0
Sent [] from to a = ⊥
Sent (t ∷ h) from to a = ((actor_of t ≡ from) × Contains (asks_of t) (to, a)) ⊎ Sent h from to a

-- a turn told this to a node
abbrev pub TellsBy : Turn → NodeId → NodeId → Tell → Type 0
TellsBy (Begun b shape asks) by to t = ⊥
TellsBy (CellTurn from i a told) by to t = (node.Cell i ≡ by) × (from ≡ to) × (tell.Cell told ≡ t)
TellsBy (LogTurn from e i a told) by to t = (node.Log e i ≡ by) × (from ≡ to) × (tell.Log told ≡ t)
TellsBy (SeqTurn from e a told) by to t = (node.Sequencer e ≡ by) × (from ≡ to) × (tell.Seq told ≡ t)
TellsBy (Submitted e p step batch asks) by to t = ⊥
TellsBy (ProxyHeard e p from told outcome asks) by to t = ⊥
TellsBy (RecHeard b from told asks) by to t = ⊥
TellsBy (StorageHeard tag from told taken fault) by to t = ⊥
TellsBy (Gone who) by to t = ⊥
TellsBy (Crashed who) by to t = ⊥

-- this node has told this to that one
abbrev pub Told : List Turn → NodeId → NodeId → Tell → Type 0
Told [] by to t = ⊥
Told (turn ∷ h) by to t = TellsBy turn by to t ⊎ Told h by to t

-- ---- the turns of the cells, as the register has them

abbrev pub cell_turn : Turn → List register.Turn → List register.Turn
cell_turn (Begun b shape asks) ts = ts
cell_turn (CellTurn from i a t) ts = record { cell = i; ask = a; tell = t } ∷ ts
cell_turn (LogTurn from e i a t) ts = ts
cell_turn (SeqTurn from e a t) ts = ts
cell_turn (Submitted e p step batch asks) ts = ts
cell_turn (ProxyHeard e p from t outcome asks) ts = ts
cell_turn (RecHeard b from t asks) ts = ts
cell_turn (StorageHeard tag from t taken fault) ts = ts
cell_turn (Gone who) ts = ts
cell_turn (Crashed who) ts = ts

abbrev pub cell_turns : List Turn → List register.Turn
cell_turns [] = []
cell_turns (t ∷ h) = cell_turn t (cell_turns h)
