-- What became of the batches that proxies took, read from their journals.
use Rattle.std.specs.Prelude.{ℕ, ◌==◌, ◌&&◌, Bool, true, false, List, [], ◌∷◌, ◌++◌, Option, Some, None, if◌then◌else◌}
use Rattle.fr_base.specs.declared.place.NodeId.{NodeId}
use Rattle.fr_base.specs.declared.place.NodeId.TheVariants.{Proxy}
use Rattle.fr_proxy.specs.declared.outcome.Outcome.{Outcome}
use Rattle.fr_proxy.specs.declared.outcome.Outcome.TheVariants.{Waiting, Committed, Ended}
use Rattle.fr_audit_journal.specs.declared.act.Act.{Act}
use Rattle.fr_audit_journal.specs.declared.act.Act.TheVariants.{Heard, Submitted}
use Rattle.fr_audit_journal.specs.declared.act.Entry.{Entry}
use Rattle.fr_audit_journal.specs.Journal.{JournalState}
use Rattle.fr_runtime_threads.specs.declared.order.Order.{Order}
use Rattle.fr_runtime_threads.specs.declared.order.UnderWay.{UnderWay}
use Rattle.fr_runtime_threads.specs.declared.order.UnderWay.TheVariants.{Nothing, Open, Said}

-- the batches that were taken, what was said of them, and whether the last one is under way
pub record Account : Type 0 where
  pub given : List Order
  pub told : List Outcome
  pub is_open : Bool

-- nothing was taken
abbrev pub nothing : Account
nothing = record { given = []; told = []; is_open = false }

-- what is said of a batch that is under way, if one is
abbrev pub waiting_if : Bool → List Outcome
waiting_if true = Waiting ∷ []
waiting_if false = []

-- what was said of batches once this is said: of one that is under way, that it is committed, or has ended
abbrev pub told_after : List Outcome → Bool → Outcome → List Outcome
told_after told is_open Waiting = told
told_after told is_open (Committed version) = if is_open then told ++ Committed version ∷ [] else told
told_after told is_open Ended = if is_open then told ++ Ended ∷ [] else told

-- whether a batch is under way once this is said
abbrev pub open_after : Bool → Outcome → Bool
open_after is_open Waiting = is_open
open_after is_open (Committed version) = false
open_after is_open Ended = false

abbrev pub with_outcome : Account → Outcome → Account
with_outcome a o = record { given = a.given; told = told_after a.told a.is_open o; is_open = open_after a.is_open o }

abbrev pub with_said : Account → Option Outcome → Account
with_said a None = a
with_said a (Some o) = with_outcome a o

-- the account after an act
abbrev pub after_act : Account → Act → Account
after_act a (Submitted step batch) = record { given = a.given ++ record { step = step; batch = batch } ∷ []; told = a.told ++ waiting_if a.is_open; is_open = true }
after_act a (Heard from tell taken outcome) = with_said a outcome
after_act a act = a

-- the account after entries
abbrev pub after_entries : Account → List Entry → Account
after_entries a [] = a
after_entries a (e ∷ es) = after_entries (after_act a e.act) es

-- the account of a proxy's journal
abbrev pub account : List Entry → Account
account es = after_entries nothing es

-- what was said of each batch that was taken: committed at a version, ended, or nothing yet
abbrev pub outcomes : List Entry → List Outcome
outcomes es = (account es).told ++ waiting_if (account es).is_open

-- the batches that several proxies took, one proxy after the other, and what was said of each

abbrev pub all_given : List JournalState → List Order
all_given [] = []
all_given (j ∷ js) = (account j.entries).given ++ all_given js

abbrev pub all_outcomes : List JournalState → List Outcome
all_outcomes [] = []
all_outcomes (j ∷ js) = outcomes j.entries ++ all_outcomes js

-- the batch that no proxy took, if there is one, and what is said of it

abbrev pub left_over : Option Order → List Order
left_over None = []
left_over (Some o) = o ∷ []

abbrev pub waiting_for : Option Order → List Outcome
waiting_for None = []
waiting_for (Some o) = Waiting ∷ []

-- what a proxy said of a batch that its workload was not told yet, and whether a batch is under way

abbrev pub said : UnderWay → List Outcome
said Nothing = []
said Open = []
said (Said o) = o ∷ []

abbrev pub is_open_in : UnderWay → Bool
is_open_in Nothing = false
is_open_in Open = true
is_open_in (Said o) = false

-- what became of the last batch once its proxy said this
abbrev pub after_saying : UnderWay → Outcome → UnderWay
after_saying Open (Committed version) = Said (Committed version)
after_saying Open Ended = Said Ended
after_saying u o = u

-- whether a node is a proxy of this number
abbrev pub is_proxy : ℕ → NodeId → Bool
is_proxy number (Proxy epoch other) = number == other
is_proxy number node = false

abbrev pub are_proxies : ℕ → List JournalState → Bool
are_proxies number [] = true
are_proxies number (j ∷ js) = is_proxy number j.node && are_proxies number js
