-- What an event makes of a world, or why it cannot happen; and a list of events from the start.
use Rattle.std.specs.Prelude.{ℕ, ◌+◌, Bool, ◌==◌, ◌&&◌, ◌||◌, not, is_some, List, [], ◌∷◌, Option, None, Some, Result, Ok, Err, if◌then◌else◌}
use Rattle.fr_base.specs.Shape.{ShapeContent}
use Rattle.fr_base.specs.declared.place.NodeId.{NodeId}
use Rattle.fr_base.specs.declared.place.NodeId.TheVariants as node
use Rattle.fr_mutation.specs.declared.mutation.Mutation.{Mutation}
use Rattle.fr_register.specs.Cell as cell
use Rattle.fr_log.specs.Step as log
use Rattle.fr_ask.specs.declared.ask.Ask.{Ask}
use Rattle.fr_ask.specs.declared.ask.Ask.TheVariants as ask
use Rattle.fr_ask.specs.declared.tell.Tell.{Tell}
use Rattle.fr_ask.specs.declared.tell.Tell.TheVariants as tell
use Rattle.fr_proxy.specs.Sequencer as seq
use Rattle.fr_proxy.specs.Proxy as proxy
use Rattle.fr_proxy.specs.declared.fault.SubmitFault.{SubmitFault}
use Rattle.fr_proxy.specs.declared.fault.SubmitFault.TheVariants as submit
use Rattle.fr_epoch.specs.Recoverer.{RecState, new_recoverer}
use Rattle.fr_epoch.specs.Asks as rec
use Rattle.fr_storage.specs.Storage as storage
use Rattle.fr_storage.specs.declared.fault.StorageFault.{StorageFault}
use Rattle.fr_run.specs.Config.{Config, first_epoch}
use Rattle.fr_run.specs.Turn.{Turn, Begun, CellTurn, LogTurn, SeqTurn, Submitted, ProxyHeard, RecHeard, StorageHeard, Gone, Crashed}
use Rattle.fr_run.specs.Nodes.{cell_at, rec_at, log_at, seq_at, proxy_at, storage_at, calls_of_log, is_there}
use Rattle.fr_run.specs.Run.{fault_of, fault_of_log}
use Rattle.fr_run.specs.declared.answer.Answer.{Answer}
use Rattle.fr_run.specs.declared.answer.Answer.TheVariants as answer
use Rattle.fr_run.specs.declared.event.Event.{Event}
use Rattle.fr_run.specs.declared.event.Event.TheVariants.{Begin, Deliver, Hear, Submit, Crash, Lose}
use Rattle.fr_run.specs.declared.not_enabled.NotEnabled.{NotEnabled}
use Rattle.fr_run.specs.declared.not_enabled.NotEnabled.TheVariants as not_enabled
use Rattle.fr_run.specs.Tests.{is_gone, was_sent, was_told, storage_may_ask}

-- ---- what may happen now

-- the turn, if the node is there and is not gone
abbrev pub if_up : Config → List Turn → NodeId → Result Turn NotEnabled → Result Turn NotEnabled
if_up c h who t = if not (is_there c h who) then Err not_enabled.NoSuchNode else if is_gone h who then Err not_enabled.Gone else t

abbrev pub if_sent : Bool → Turn → Result Turn NotEnabled
if_sent sent t = if sent then Ok t else Err not_enabled.NeverSent

-- an ask comes to a cell, a log or a sequencer
abbrev pub delivered : Config → List Turn → NodeId → NodeId → Ask → Result Turn NotEnabled
delivered c h from (node.Cell i) (ask.Cell a) = if_sent (was_sent h from (node.Cell i) (ask.Cell a)) (CellTurn from i a (cell.answer_of (cell_at c h i) a))
delivered c h from (node.Log e i) (ask.Log a) =
    if_sent (was_sent h from (node.Log e i) (ask.Log a) || storage_may_ask c h from a) (LogTurn from e i a (log.answer_of (log_at c h e i) a))
delivered c h from (node.Sequencer e) (ask.Seq a) = if_sent (was_sent h from (node.Sequencer e) (ask.Seq a)) (SeqTurn from e a (seq.answer_of (seq_at c h e) a))
delivered c h from to a = Err not_enabled.NeverSent

-- only a storage server's hear can break off
abbrev pub whole : Option ℕ → Turn → Result Turn NotEnabled
whole None t = Ok t
whole (Some version) t = Err not_enabled.NeverSent

abbrev pub heard_by_rec : ℕ → NodeId → Tell → Option ℕ → Option RecState → Result Turn NotEnabled
heard_by_rec b from t taken None = Err not_enabled.NoSuchNode
heard_by_rec b from t taken (Some r) = whole taken (RecHeard b from t (rec.new_asks r from t))

-- whether a storage server's hear of a log's tell can break off at a version: it is not refused, and its calls pass there
abbrev pub breaks_in : storage.StorageState → ℕ → Tell → ℕ → Bool
breaks_in s e (tell.Log t) version = not (is_some (fault_of_log s e t)) && is_some (storage.broken_at s.store (calls_of_log s e t) version)
breaks_in s e t version = version == s.store.applied

abbrev pub may_break : storage.StorageState → NodeId → Tell → ℕ → Bool
may_break s (node.Log e i) t version = breaks_in s e t version
may_break s from t version = version == s.store.applied

abbrev pub heard_by_storage : storage.StorageState → ℕ → NodeId → Tell → Option ℕ → Result Turn NotEnabled
heard_by_storage s tag from t None = Ok (StorageHeard tag from t None (fault_of s from t))
heard_by_storage s tag from t (Some version) = if_sent (may_break s from t version) (StorageHeard tag from t (Some version) (fault_of s from t))

-- a tell comes to a proxy, a recoverer or a storage server
abbrev pub heard_by : Config → List Turn → NodeId → NodeId → Tell → Option ℕ → Result Turn NotEnabled
heard_by c h (node.Cell i) from t taken = Err not_enabled.NeverSent
heard_by c h (node.Log e i) from t taken = Err not_enabled.NeverSent
heard_by c h (node.Sequencer e) from t taken = Err not_enabled.NeverSent
heard_by c h (node.Proxy e p) from t taken =
    whole taken (ProxyHeard e p from t (proxy.outcome_of (proxy_at c h e p) from t) (proxy.new_asks (proxy_at c h e p) from t))
heard_by c h (node.Recoverer b) from t taken = heard_by_rec b from t taken (rec_at c h b)
heard_by c h (node.Storage tag) from t taken = heard_by_storage (storage_at c h tag) tag from t taken

abbrev pub if_told : Bool → Result Turn NotEnabled → Result Turn NotEnabled
if_told told t = if told then t else Err not_enabled.NeverSent

-- a proxy takes a batch
abbrev pub not_taken : SubmitFault → NotEnabled
not_taken submit.TwoOpen = not_enabled.TwoOpen
not_taken submit.Over = not_enabled.Over
not_taken submit.Memory = not_enabled.Memory

abbrev pub if_takes : Option SubmitFault → Turn → Result Turn NotEnabled
if_takes None t = Ok t
if_takes (Some fault) t = Err (not_taken fault)

abbrev pub submitted : proxy.ProxyState → ℕ → ℕ → ℕ → List Mutation → Result Turn NotEnabled
submitted s e p step batch = if_takes (proxy.submit_fault s) (Submitted e p step batch (proxy.number_ask s (proxy.opened s step batch) ∷ []))

-- a crash takes proxies, sequencers and recoverers away
abbrev pub crashed : NodeId → Turn
crashed (node.Cell i) = Crashed (node.Cell i)
crashed (node.Log e i) = Crashed (node.Log e i)
crashed (node.Sequencer e) = Gone (node.Sequencer e)
crashed (node.Proxy e p) = Gone (node.Proxy e p)
crashed (node.Recoverer b) = Gone (node.Recoverer b)
crashed (node.Storage t) = Crashed (node.Storage t)

-- the ballot of the start, ballot 0 and those of recoverers that began are used
abbrev pub is_used : Config → List Turn → ℕ → Bool
is_used c h b = is_some (rec_at c h b) || ((b == first_epoch) || (b == 0))

abbrev pub begun : Config → List Turn → ℕ → Option ShapeContent → Result Turn NotEnabled
begun c h b shape = if is_used c h b then Err not_enabled.BallotUsed else Ok (Begun b shape (rec.pending (new_recoverer b c.cells c.begins shape)))

-- the turn that an event is, or why it cannot happen
abbrev pub turn_of : Config → List Turn → Event → Result Turn NotEnabled
turn_of c h (Begin b shape) = begun c h b shape
turn_of c h (Deliver from to a) = if_up c h to (delivered c h from to a)
turn_of c h (Hear by from t taken) = if_up c h by (if_told (was_told h from by t) (heard_by c h by from t taken))
turn_of c h (Submit e p step batch) = if_up c h (node.Proxy e p) (submitted (proxy_at c h e p) e p step batch)
turn_of c h (Crash who) = if_up c h who (Ok (crashed who))
turn_of c h (Lose log) = if_up c h (node.Log log.epoch log.index) (Ok (Gone (node.Log log.epoch log.index)))

-- ---- what is answered

abbrev pub fault_answer : Option StorageFault → Answer
fault_answer None = answer.Done
fault_answer (Some fault) = answer.Refused fault

-- what a turn answers
abbrev pub answer_of : Turn → Answer
answer_of (Begun b shape asks) = answer.Done
answer_of (CellTurn from i a t) = answer.Told (tell.Cell t)
answer_of (LogTurn from e i a t) = answer.Told (tell.Log t)
answer_of (SeqTurn from e a t) = answer.Told (tell.Seq t)
answer_of (Submitted e p step batch asks) = answer.Done
answer_of (ProxyHeard e p from t outcome asks) = answer.Heard outcome
answer_of (RecHeard b from t asks) = answer.Done
answer_of (StorageHeard tag from t taken fault) = fault_answer fault
answer_of (Gone who) = answer.Done
answer_of (Crashed who) = answer.Done

-- ---- lists of events

abbrev pub next_result : (List Turn → Result (List Turn) (ℕ × NotEnabled)) → List Turn → ℕ → Result Turn NotEnabled → Result (List Turn) (ℕ × NotEnabled)
next_result go h n (Ok t) = go (t ∷ h)
next_result go h n (Err why) = Err (n, why)

-- the world, which is its list of turns, after events that follow n others; or the number of the first that cannot happen, and why
abbrev pub replay_from : Config → List Turn → ℕ → List Event → Result (List Turn) (ℕ × NotEnabled)
replay_from c h n [] = Ok h
replay_from c h n (event ∷ events) = next_result (λ later. replay_from c later (n + 1) events) h n (turn_of c h event)

-- from the start
abbrev pub replay : Config → List Event → Result (List Turn) (ℕ × NotEnabled)
replay c events = replay_from c [] 0 events
