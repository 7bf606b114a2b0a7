-- The node whose turn an event is, and the limits within which its numbers are.
use Rattle.std.specs.Prelude.{◌<◌, ◌≤◌, ◌≢◌, ◌^◌, IfSome}
use Rattle.fr_base.specs.Shape.{IsShape}
use Rattle.fr_base.specs.declared.place.NodeId.{NodeId}
use Rattle.fr_base.specs.declared.place.NodeId.TheVariants as node
use Rattle.fr_ask.specs.declared.ask.Ask.{Ask}
use Rattle.fr_ask.specs.declared.ask.Ask.TheVariants as ask
use Rattle.fr_run.specs.Run.{WantsSome}
use Rattle.fr_run.specs.declared.event.Event.{Event}
use Rattle.fr_run.specs.declared.event.Event.TheVariants.{Begin, Deliver, Hear, Submit, Crash, Lose}

abbrev pub node_of : Event → NodeId
node_of (Begin ballot shape) = node.Recoverer ballot
node_of (Deliver from to a) = to
node_of (Hear by from t taken) = by
node_of (Submit epoch proxy step batch) = node.Proxy epoch proxy
node_of (Crash who) = who
node_of (Lose log) = node.Log log.epoch log.index

-- a peek is for at least one record
abbrev pub AskHasLimits : Ask → Type 0
AskHasLimits (ask.Cell a) = Unit {0}
AskHasLimits (ask.Log a) = WantsSome a
AskHasLimits (ask.Seq a) = Unit {0}

-- ballots are 0 or at least 256, and below 2^48; a shape is one; the step of a version is at least 1
abbrev pub HasLimits : Event → Type 0
HasLimits (Begin ballot shape) = (ballot ≢ 0 → 256 ≤ ballot) × (ballot < 2 ^ 48) × IfSome shape IsShape
HasLimits (Deliver from to a) = AskHasLimits a
HasLimits (Hear by from t taken) = Unit {0}
HasLimits (Submit epoch proxy step batch) = 1 ≤ step
HasLimits (Crash who) = Unit {0}
HasLimits (Lose log) = Unit {0}
