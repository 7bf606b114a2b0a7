-- Tests on the turns of a world: who is gone, what was sent, what was told.
use Rattle.std.specs.Prelude.{ℕ, Bool, false, nat_lt, nat_le, length, ◌==◌, ◌&&◌, List}
use Rattle.std.specs.List.{list_any}
use Rattle.fr_base.specs.Node.{is_same_node}
use Rattle.fr_base.specs.declared.place.NodeId.{NodeId}
use Rattle.fr_base.specs.declared.place.NodeId.TheVariants as node
use Rattle.fr_log.specs.declared.ask.LogAsk.{LogAsk}
use Rattle.fr_log.specs.declared.ask.LogAsk.TheVariants as lask
use Rattle.fr_ask.specs.Same.{is_same_ask, is_same_tell}
use Rattle.fr_ask.specs.declared.ask.Ask.{Ask}
use Rattle.fr_ask.specs.declared.tell.Tell.{Tell}
use Rattle.fr_ask.specs.declared.tell.Tell.TheVariants as tell
use Rattle.fr_storage.specs.Storage.{StorageState}
use Rattle.fr_run.specs.Config.{Config}
use Rattle.fr_run.specs.Nodes.{storage_at}
use Rattle.fr_run.specs.Turn.{Turn, Sending, Begun, CellTurn, LogTurn, SeqTurn, Submitted, ProxyHeard, RecHeard, StorageHeard, Gone, Crashed, actor_of, asks_of}

-- whether a turn took a node away
abbrev pub goes : NodeId → Turn → Bool
goes who (Begun b shape asks) = false
goes who (CellTurn from i a t) = false
goes who (LogTurn from e i a t) = false
goes who (SeqTurn from e a t) = false
goes who (Submitted e p step batch asks) = false
goes who (ProxyHeard e p from t outcome asks) = false
goes who (RecHeard b from t asks) = false
goes who (StorageHeard tag from t taken fault) = false
goes who (Gone other) = is_same_node who other
goes who (Crashed other) = false

-- whether a node crashed for good, or is a log that is lost
abbrev pub is_gone : List Turn → NodeId → Bool
is_gone h who = list_any (goes who) h

abbrev pub is_sending : NodeId → Ask → Sending → Bool
is_sending to a s = is_same_node s.0 to && is_same_ask s.1 a

-- whether a turn of a node gave an ask to another
abbrev pub gives : NodeId → NodeId → Ask → Turn → Bool
gives from to a t = is_same_node (actor_of t) from && list_any (is_sending to a) (asks_of t)

-- whether a node gave an ask to another
abbrev pub was_sent : List Turn → NodeId → NodeId → Ask → Bool
was_sent h from to a = list_any (gives from to a) h

abbrev pub tells : NodeId → NodeId → Tell → Turn → Bool
tells by to t (Begun b shape asks) = false
tells by to t (CellTurn from i a told) = is_same_node (node.Cell i) by && (is_same_node from to && is_same_tell (tell.Cell told) t)
tells by to t (LogTurn from e i a told) = is_same_node (node.Log e i) by && (is_same_node from to && is_same_tell (tell.Log told) t)
tells by to t (SeqTurn from e a told) = is_same_node (node.Sequencer e) by && (is_same_node from to && is_same_tell (tell.Seq told) t)
tells by to t (Submitted e p step batch asks) = false
tells by to t (ProxyHeard e p from told outcome asks) = false
tells by to t (RecHeard b from told asks) = false
tells by to t (StorageHeard tag from told taken fault) = false
tells by to t (Gone who) = false
tells by to t (Crashed who) = false

-- whether a node told this to another
abbrev pub was_told : List Turn → NodeId → NodeId → Tell → Bool
was_told h by to t = list_any (tells by to t) h

-- whether an epoch is that of a generation that a storage server has, and a version not above its floor
abbrev pub may_pop : StorageState → ℕ → ℕ → Bool
may_pop s e through = list_any (λ g. g.epoch == e) s.state.gens && nat_le through s.store.floor

-- whether an ask is one that storage servers may give at any time: for a mark, for records of the own tag, and to let go of these through the
-- floor, of a generation that the server has
abbrev pub storage_may_ask : Config → List Turn → NodeId → LogAsk → Bool
storage_may_ask c h (node.Storage t) (lask.Peek e tag after most) = (t == tag) && nat_lt t (length c.begins)
storage_may_ask c h (node.Storage t) (lask.MarkAsked e) = nat_lt t (length c.begins)
storage_may_ask c h (node.Storage t) (lask.Pop e tag through) = (t == tag) && (nat_lt t (length c.begins) && may_pop (storage_at c h t) e through)
storage_may_ask c h from a = false
