-- Numbers that are further ahead than a node may follow at once.
use Rattle.std.specs.Prelude.{ℕ, Bool, true, false, ◌-◌, ◌/◌, ◌^◌, ◌||◌, nat_lt, List, Option, None, Some}
use Rattle.fr_ask.specs.declared.ask.Ask.{Ask}
use Rattle.fr_ask.specs.declared.ask.Ask.TheVariants as ask
use Rattle.fr_ask.specs.declared.tell.Tell.{Tell}
use Rattle.fr_ask.specs.declared.tell.Tell.TheVariants as tell
use Rattle.fr_ask.specs.declared.last.Last.{Last}
use Rattle.fr_ask.specs.declared.last.Last.TheVariants as last
use Rattle.fr_register.specs.Cell.{ballot_of}
use Rattle.fr_log.specs.declared.ask.LogTell.{LogTell}
use Rattle.fr_log.specs.declared.ask.LogTell.TheVariants as log
use Rattle.fr_audit_journal.specs.declared.act.Entry.{Entry}
use Rattle.fr_audit_journal.specs.Journal.{last_stamp}
use Rattle.fr_storage.specs.Storage.{own_epoch}
use Rattle.fr_node.specs.declared.ahead.Reach.{Reach}
use Rattle.fr_node.specs.declared.turn.NodeTurn.{NodeTurn}
use Rattle.fr_node.specs.declared.turn.NodeTurn.TheVariants as turn
use Rattle.fr_node.specs.declared.fault.TurnRefusal.{TurnRefusal}
use Rattle.fr_node.specs.declared.fault.TurnRefusal.TheVariants as refusal
use Rattle.fr_node.specs.declared.reply.NodeRequest.{NodeRequest}
use Rattle.fr_node.specs.declared.reply.NodeRequest.TheVariants as order

-- ---- how far a node is

-- the ballot that a cell promised, or that of a storage server's epoch
abbrev pub ballot_in : Last → Option ℕ
ballot_in (last.Cell promised written value) = Some promised
ballot_in (last.Storage epoch version floor rows) = Some epoch
ballot_in l = None

-- the version that a storage server has applied
abbrev pub version_in : Last → Option ℕ
version_in (last.Storage epoch version floor rows) = Some version
version_in l = None

-- how far a node is that is in a state, and did this in its process
abbrev pub reach_of : Last → List Entry → Reach
reach_of l entries = record { ballot = ballot_in l; stamp = last_stamp entries; version = version_in l }

-- ---- how far is too far

-- whether a number is more than so many units above the one that was reached, if one was
abbrev pub is_beyond : Option ℕ → ℕ → ℕ → ℕ → Bool
is_beyond None unit most n = false
is_beyond (Some reached) unit most n = nat_lt most (n / unit - reached / unit)

-- 256 ballots are a round
abbrev pub ballot_is_ahead : ℕ → Reach → ℕ → Bool
ballot_is_ahead most r ballot = is_beyond r.ballot 256 most ballot

abbrev pub stamp_is_ahead : ℕ → Reach → ℕ → Bool
stamp_is_ahead most r stamp = is_beyond r.stamp 1 most stamp

-- a commit is at most 1,000,000 versions above the one before it, which is below 2^20
abbrev pub version_is_ahead : ℕ → Reach → ℕ → Bool
version_is_ahead most r version = is_beyond r.version (2 ^ 20) most version

-- an ask can move a cell's promise
abbrev pub ask_is_ahead : ℕ → Reach → Ask → Bool
ask_is_ahead most r (ask.Cell a) = ballot_is_ahead most r (ballot_of a)
ask_is_ahead most r a = false

-- a log's answer can move a storage server's floor and the version applied, and a mark its epoch
abbrev pub log_tell_is_ahead : ℕ → Reach → LogTell → Bool
log_tell_is_ahead most r (log.Peeked p) = version_is_ahead most r p.known || version_is_ahead most r p.upto
log_tell_is_ahead most r (log.Marked state) = ballot_is_ahead most r (own_epoch state)
log_tell_is_ahead most r t = false

abbrev pub tell_is_ahead : ℕ → Reach → Tell → Bool
tell_is_ahead most r (tell.Log t) = log_tell_is_ahead most r t
tell_is_ahead most r t = false

abbrev pub turn_is_ahead : ℕ → Reach → NodeTurn → Bool
turn_is_ahead most r (turn.Ask from a) = ask_is_ahead most r a
turn_is_ahead most r (turn.Hear from t) = tell_is_ahead most r t
turn_is_ahead most r t = false

-- whether a turn, or the stamp that comes with it, is further ahead than so many rounds, stamps, or versions of so many commits
abbrev pub is_ahead : ℕ → Reach → ℕ → NodeTurn → Bool
is_ahead most r at t = stamp_is_ahead most r at || turn_is_ahead most r t

-- whether what a process is asked is: a turn, or a start, which has only a stamp
abbrev pub order_is_ahead : ℕ → Reach → NodeRequest → Bool
order_is_ahead most r (order.Take at t is_whole) = is_ahead most r at t
order_is_ahead most r (order.Back at hearing is_whole) = stamp_is_ahead most r at
order_is_ahead most r o = false

-- it is refused for that first, and else for its own reason
abbrev pub ahead_or : Bool → Option TurnRefusal → Option TurnRefusal
ahead_or true why = Some refusal.TooFar
ahead_or false why = why
