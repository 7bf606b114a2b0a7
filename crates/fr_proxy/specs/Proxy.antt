-- The state of a proxy, what it takes, hears and asks.
use Rattle.std.specs.Prelude.{ℕ, ◌+◌, ◌^◌, ◌||◌, Bool, true, false, nat_lt, nat_le, ◌==◌, ◌&&◌, not, is_some, List, [], ◌∷◌, length, map, filter, Option, None, Some, if◌then◌else◌}
use Rattle.std.specs.List.{list_any, range_with_len}
use Rattle.std.specs.Option.{option_map}
use Rattle.fr_base.specs.declared.place.NodeId.{NodeId}
use Rattle.fr_base.specs.declared.place.NodeId.TheVariants as node
use Rattle.fr_mutation.specs.declared.mutation.Mutation.{Mutation}
use Rattle.fr_tags.specs.declared.body.Body.{Body}
use Rattle.fr_tags.specs.SplitLaw.{bodies_at}
use Rattle.fr_log.specs.declared.ask.LogAsk.TheVariants.{Push}
use Rattle.fr_log.specs.declared.ask.LogTell.{LogTell}
use Rattle.fr_log.specs.declared.ask.LogTell.TheVariants as log
use Rattle.fr_log.specs.declared.ask.LogRefusal.{LogRefusal}
use Rattle.fr_log.specs.declared.ask.LogRefusal.TheVariants as why
use Rattle.fr_log.specs.Push.{PushContent}
use Rattle.fr_ask.specs.declared.ask.Ask.{Ask}
use Rattle.fr_ask.specs.declared.ask.Ask.TheVariants as ask
use Rattle.fr_ask.specs.declared.tell.Tell.{Tell}
use Rattle.fr_ask.specs.declared.tell.Tell.TheVariants as tell
use Rattle.fr_ask.specs.declared.sequencer.SeqAsk.TheVariants.{Next}
use Rattle.fr_ask.specs.declared.sequencer.SeqTell.{SeqTell}
use Rattle.fr_ask.specs.declared.sequencer.SeqTell.TheVariants as seq
use Rattle.fr_ask.specs.declared.sequencer.SeqRefusal.TheVariants as turn
pub use Rattle.fr_proxy.specs.declared.number.Place.{Place}
pub use Rattle.fr_proxy.specs.declared.heeded.Heeded.{Heeded}
pub use Rattle.fr_proxy.specs.declared.heeded.Heeded.TheVariants.{Ignored, Placed, HeldBy, HeldByAll, Cut}
use Rattle.fr_proxy.specs.declared.fault.SubmitFault.{SubmitFault}
use Rattle.fr_proxy.specs.declared.fault.SubmitFault.TheVariants.{TwoOpen, Over}
use Rattle.fr_proxy.specs.declared.outcome.Outcome.{Outcome}
use Rattle.fr_proxy.specs.declared.outcome.Outcome.TheVariants.{Waiting, Committed, Ended}

-- the batch that a proxy has under way: its request and step, its place in the chain of versions once the sequencer gave it a
-- number, and the logs that told to hold it, the latest first
pub record Open : Type 0 where
  pub request : ℕ
  pub step : ℕ
  pub batch : List Mutation
  pub place : Option Place
  pub held : List ℕ

-- a proxy: its generation, its number there, the generation's m and k, where the shards begin, the last version that it knows to
-- be committed, how many requests it made, the batch under way, and whether it takes no more
pub record ProxyState : Type 0 where
  pub epoch : ℕ
  pub number : ℕ
  pub m : ℕ
  pub k : ℕ
  pub begins : List (List ℕ)
  pub known : ℕ
  pub requests : ℕ
  pub under_way : Option Open
  pub over : Bool

-- a proxy that took nothing yet
abbrev pub new_proxy : ℕ → ℕ → ℕ → ℕ → List (List ℕ) → ℕ → ProxyState
new_proxy epoch number m k begins known =
    record { epoch = epoch; number = number; m = m; k = k; begins = begins; known = known; requests = 0; under_way = None; over = false }

-- ---- a batch is submitted

-- a proxy that ended, or whose requests are spent, takes no more
abbrev pub is_over : ProxyState → Bool
is_over p = p.over || nat_le (2 ^ 62) (p.requests + 1)

-- a proxy takes a batch if it has none under way and is not over
abbrev pub takes_batch : ProxyState → Bool
takes_batch p = not (is_some p.under_way) && not (is_over p)

-- why a batch is not taken, the first reason first
abbrev pub submit_fault : ProxyState → Option SubmitFault
submit_fault p = if is_some p.under_way then Some TwoOpen else if is_over p then Some Over else None

-- the batch under the proxy's next request
abbrev pub opened : ProxyState → ℕ → List Mutation → Open
opened p step batch = record { request = p.requests + 1; step = step; batch = batch; place = None; held = [] }

-- the proxy after a batch that it takes
abbrev pub submitted : ProxyState → ℕ → List Mutation → ProxyState
submitted p step batch = record p { requests = p.requests + 1; under_way = Some (opened p step batch) }

-- the ask for a batch's number
abbrev pub number_ask : ProxyState → Open → NodeId × Ask
number_ask p o = (node.Sequencer p.epoch, ask.Seq (Next p.number o.request o.step))

-- ---- asks

-- the ask that bodies be held at a place
abbrev pub push_with : ProxyState → Place → List Body → Ask
push_with p at bodies = ask.Log (Push (record { epoch = p.epoch; prev = at.prev; version = at.version; known = p.known; bodies = bodies; mark = None }))

-- the push of a numbered batch to a log
abbrev pub push_of : ProxyState → Open → Place → ℕ → PushContent
push_of p o at log = record {
  epoch = p.epoch;
  prev = at.prev;
  version = at.version;
  known = p.known;
  bodies = bodies_at p.begins o.batch p.m p.k log;
  mark = None;
}

abbrev pub is_in : List ℕ → ℕ → Bool
is_in logs log = list_any (λ other. other == log) logs

-- the pushes to the logs that do not hold the batch yet
abbrev pub pushes_at : ProxyState → Open → Option Place → List (NodeId × Ask)
pushes_at p o None = []
pushes_at p o (Some at) =
    map (λ log. (node.Log p.epoch log, ask.Log (Push (push_of p o at log)))) (filter (λ log. not (is_in o.held log)) (range_with_len 0 p.m))

abbrev pub asks_for : ProxyState → Open → List (NodeId × Ask)
asks_for p o = if is_some o.place then pushes_at p o o.place else number_ask p o ∷ []

abbrev pub asks_of_open : ProxyState → Option Open → List (NodeId × Ask)
asks_of_open p None = []
asks_of_open p (Some o) = asks_for p o

-- all asks whose tells are wanted
abbrev pub pending : ProxyState → List (NodeId × Ask)
pending p = asks_of_open p p.under_way

-- ---- a tell is heard

-- a number of the open request from which a push can be made, if the batch has none yet
abbrev pub may_place : ProxyState → Open → ℕ → ℕ → ℕ → Bool
may_place p o request prev version = ((request == o.request) && not (is_some o.place)) && (nat_le p.known prev && (nat_lt prev version && nat_le version (prev + 1000000)))

abbrev pub heed_seq : ProxyState → Open → SeqTell → Heeded
heed_seq p o (seq.Numbered request prev version) = if may_place p o request prev version then Placed (record { prev = prev; version = version }) else Ignored
heed_seq p o (seq.Refused turn.Spent) = Cut
heed_seq p o (seq.Refused turn.OutOfTurn) = Ignored

-- this log was not known to hold the batch; the last such one makes it held by all
abbrev pub heed_new : ProxyState → Open → ℕ → ℕ → Heeded
heed_new p o log version = if length o.held + 1 == p.m then HeldByAll version else HeldBy log

abbrev pub heed_held : ProxyState → Open → Option Place → ℕ → ℕ → Heeded
heed_held p o None log version = Ignored
heed_held p o (Some at) log version = if (version == at.version) && not (is_in o.held log) then heed_new p o log version else Ignored

abbrev pub heed_refusal : LogRefusal → Heeded
heed_refusal why.Stopped = Cut
heed_refusal r = Ignored

abbrev pub heed_log : ProxyState → Open → ℕ → LogTell → Heeded
heed_log p o index (log.Held version) = heed_held p o o.place index version
heed_log p o index (log.Refused why) = heed_refusal why
heed_log p o index t = Ignored

-- whether this is a log of the proxy's generation
abbrev pub is_own_log : ProxyState → ℕ → ℕ → Bool
is_own_log p epoch log = (epoch == p.epoch) && nat_lt log p.m

-- what the sequencer and the logs of the proxy's generation tell counts, and nothing else
abbrev pub heed : ProxyState → Open → NodeId → Tell → Heeded
heed p o (node.Sequencer epoch) (tell.Seq t) = if epoch == p.epoch then heed_seq p o t else Ignored
heed p o (node.Log epoch log) (tell.Log t) = if is_own_log p epoch log then heed_log p o log t else Ignored
heed p o from t = Ignored

abbrev pub heed_open : ProxyState → Option Open → NodeId → Tell → Heeded
heed_open p None from t = Ignored
heed_open p (Some o) from t = heed p o from t

-- what a tell is to a proxy
abbrev pub heeded : ProxyState → NodeId → Tell → Heeded
heeded p from t = heed_open p p.under_way from t

-- the batch under way with its number, or with one more log
abbrev pub placed : Place → Open → Open
placed at o = record o { place = Some at }

abbrev pub with_held : ℕ → Open → Open
with_held log o = record o { held = log ∷ o.held }

abbrev pub after_heeded : ProxyState → Heeded → ProxyState
after_heeded p Ignored = p
after_heeded p (Placed at) = record p { under_way = option_map (placed at) p.under_way }
after_heeded p (HeldBy log) = record p { under_way = option_map (with_held log) p.under_way }
after_heeded p (HeldByAll version) = record p { under_way = None; known = version }
after_heeded p Cut = record p { under_way = None; over = true }

abbrev pub outcome_of_heeded : Heeded → Outcome
outcome_of_heeded Ignored = Waiting
outcome_of_heeded (Placed at) = Waiting
outcome_of_heeded (HeldBy log) = Waiting
outcome_of_heeded (HeldByAll version) = Committed version
outcome_of_heeded Cut = Ended

abbrev pub asks_of_heeded : ProxyState → Heeded → List (NodeId × Ask)
asks_of_heeded p Ignored = []
asks_of_heeded p (Placed at) = pending (after_heeded p (Placed at))
asks_of_heeded p (HeldBy log) = []
asks_of_heeded p (HeldByAll version) = []
asks_of_heeded p Cut = []

-- the proxy after a tell
abbrev pub after_hear : ProxyState → NodeId → Tell → ProxyState
after_hear p from t = after_heeded p (heeded p from t)

-- what it then says of the batch
abbrev pub outcome_of : ProxyState → NodeId → Tell → Outcome
outcome_of p from t = outcome_of_heeded (heeded p from t)

-- what it then asks: the pushes of a batch that was numbered just now
abbrev pub new_asks : ProxyState → NodeId → Tell → List (NodeId × Ask)
new_asks p from t = asks_of_heeded p (heeded p from t)
