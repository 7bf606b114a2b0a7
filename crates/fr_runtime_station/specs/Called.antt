-- What a node behind a lock is called and what it answers.
use Rattle.std.specs.Prelude.{ℕ, Bool, true, false, not, nat_le, ◌==◌, ◌≡◌, ◌≤◌, ◌<◌, ◌⊎◌, ◌↔◌, ⊤, if◌then◌else◌, List, Some, Result, Ok, Err, IfOk, IfErr, OnErr}
use Rattle.std.specs.List.{list_any}
use Rattle.fr_base.specs.declared.node.InMemory.{InMemory}
use Rattle.fr_base.specs.declared.node.NodeFault.TheVariants as node
use Rattle.fr_base.specs.declared.place.NodeId.{NodeId}
use Rattle.fr_base.specs.declared.place.NodeId.TheVariants as place
use Rattle.fr_ask.specs.Named.{cell_ask_of, log_ask_of, seq_ask_of}
use Rattle.fr_ask.specs.declared.ask.Ask.{Ask}
use Rattle.fr_ask.specs.declared.ask.Ask.TheVariants as ask
use Rattle.fr_ask.specs.declared.tell.Tell.{Tell}
use Rattle.fr_ask.specs.declared.tell.Tell.TheVariants as tell
use Rattle.fr_audit_journal.specs.declared.act.Act.{Act}
use Rattle.fr_audit_journal.specs.declared.act.Act.TheVariants as act
use Rattle.fr_log.specs.LogState.{LogState}
use Rattle.fr_log.specs.Step as log
use Rattle.fr_log.specs.declared.ask.LogAsk.{LogAsk}
use Rattle.fr_proxy.specs.Sequencer as sequencer
use Rattle.fr_proxy.specs.Sequencer.{SeqState}
use Rattle.fr_ask.specs.declared.sequencer.SeqAsk.{SeqAsk}
use Rattle.fr_register.specs.Cell as cell
use Rattle.fr_register.specs.CellState.{CellState}
use Rattle.fr_register.specs.declared.ask.CellAsk.{CellAsk}
use Rattle.fr_audit_journal.specs.Housing.{Housing, Asks, IsStruck, Leaves, refusal_of}
use Rattle.fr_audit_journal.specs.Replays.{Steps, steps}
use Rattle.fr_audit_journal.specs.declared.call_fault.CallFault.{CallFault}
use Rattle.fr_audit_journal.specs.declared.call_fault.CallFault.TheVariants as call
use Rattle.fr_runtime_station.specs.Answering.{IsAnswer, answers, is_asked_of}
use Rattle.fr_runtime_station.specs.declared.chosen.Chosen.{Chosen}
use Rattle.fr_runtime_station.specs.declared.directory_fault.DirectoryFault.{DirectoryFault}
use Rattle.fr_runtime_station.specs.declared.directory_fault.DirectoryFault.TheVariants as fault

-- what a node that is `old` answers to an ask, and that it is `new` then. The ask is entered and told, or refused as
-- its journal says, or a fault leaves the journal; but `Memory` may come once the ask is entered
pub record IsAsked {N S A : Type 0} (m : Steps S A) (old new : Housing N S A) (stamp : ℕ) (from : NodeId) (a : A) (result : Result (ℕ × Tell) CallFault) : Type 0 where
  pub entered : IfOk result (λ got. Asks m old new stamp from a (got.0, got.1))
  pub lost : (result ≡ Err call.Lost) ↔ (refusal_of old stamp ≡ Some call.Lost)
  pub spent : (result ≡ Err call.StampsSpent) ↔ (refusal_of old stamp ≡ Some call.StampsSpent)
  pub left : IfErr result (λ fault. Leaves m old new ⊎ ((fault ≡ call.Node node.Memory) × ((got : ℕ × Tell) × Asks m old new stamp from a got)))

-- a node that answers asks was so when it was asked this
pub record WasAsked (N : Type 0) {S A : Type 0} (m : Steps S A) (stamp : ℕ) (from : NodeId) (a : A) (result : Result (ℕ × Tell) CallFault) : Type 0 where
  pub old : Housing N S A
  pub new : Housing N S A
  pub place : answers old.place ≡ true
  pub asked : IsAsked m old new stamp from a result

-- a node that answers asks was so when it crashed or was lost
pub record WasStruck (N : Type 0) {S A : Type 0} (by : Act) (m : Steps S A) (stamp : ℕ) (result : Result ℕ CallFault) : Type 0 where
  pub old : Housing N S A
  pub new : Housing N S A
  pub place : answers old.place ≡ true
  pub struck : IsStruck by m old new stamp result

-- the machines of cells, logs and sequencers, their asks and tells among all

abbrev pub cell_steps : Steps CellState CellAsk
cell_steps = steps (λ a. ask.Cell a) cell_ask_of (λ t. tell.Cell t) cell.answer_of cell.next_of

abbrev pub log_steps : Steps LogState LogAsk
log_steps = steps (λ a. ask.Log a) log_ask_of (λ t. tell.Log t) log.answer_of log.after_ask

abbrev pub seq_steps : Steps SeqState SeqAsk
seq_steps = steps (λ a. ask.Seq a) seq_ask_of (λ t. tell.Seq t) sequencer.answer_of sequencer.next_of

-- such a node was asked by a caller of this stamp, raised to the one from which on the node is there
pub record WasCalled (N : Type 0) {S A : Type 0} (m : Steps S A) (stamp : ℕ) (from : NodeId) (a : A) (result : Result (ℕ × Tell) CallFault) : Type 0 where
  pub raised : ℕ
  pub is_raised : stamp ≤ raised
  pub asked : WasAsked N m raised from a result

-- a cell over C, a log over L or a sequencer was, as the ask says
abbrev pub IsCall : (C L : Type 0) → ℕ → NodeId → Ask → Result (ℕ × Tell) CallFault → Type 0
IsCall C L stamp from (ask.Cell a) result = WasCalled C cell_steps stamp from a result
IsCall C L stamp from (ask.Log a) result = WasCalled L log_steps stamp from a result
IsCall C L stamp from (ask.Seq a) result = WasCalled (InMemory SeqState) seq_steps stamp from a result

-- the same of a crash or a loss
pub record IsBlow (N : Type 0) {S A : Type 0} (by : Act) (m : Steps S A) (stamp : ℕ) (result : Result ℕ CallFault) : Type 0 where
  pub raised : ℕ
  pub is_raised : stamp ≤ raised
  pub struck : WasStruck N by m raised result

abbrev pub IsCrash : (C L : Type 0) → ℕ → NodeId → Result ℕ CallFault → Type 0
IsCrash C L stamp (place.Cell index) result = IsBlow C act.Crashed cell_steps stamp result
IsCrash C L stamp (place.Log epoch index) result = IsBlow L act.Crashed log_steps stamp result
IsCrash C L stamp (place.Sequencer epoch) result = IsBlow (InMemory SeqState) act.Crashed seq_steps stamp result
IsCrash C L stamp node result = ⊥

-- a log over L was lost
abbrev pub IsLoss : (L : Type 0) → ℕ → Result ℕ CallFault → Type 0
IsLoss L stamp result = IsBlow L act.Lost log_steps stamp result

-- why a directory answers nothing: what the node that was called says, if it was called
abbrev pub IsUncalled : (Result (ℕ × Tell) CallFault → Type 0) → DirectoryFault → Type 0
IsUncalled Call (fault.Call why) = Call (Err why)
IsUncalled Call why = ⊤

abbrev pub IsUnstruck : (Result ℕ CallFault → Type 0) → DirectoryFault → Type 0
IsUnstruck Blow (fault.Call why) = Blow (Err why)
IsUnstruck Blow why = ⊤

-- the nodes for which a directory has a place: so many cells, so many logs and a sequencer of the generation of the start, and those of the later epochs that may come
pub record Places : Type 0 where
  pub cells : ℕ
  pub start : Chosen
  pub logs : ℕ
  pub later : List ℕ

-- an epoch is that of the start
abbrev pub is_first : Places → ℕ → Bool
is_first p epoch = epoch == p.start.generation.epoch

-- an epoch is one of those that may come
abbrev pub may_come : Places → ℕ → Bool
may_come p epoch = list_any (λ e. e == epoch) p.later

-- a directory has no such node for sure: no such cell, no such log of the start, or a node of an epoch that is neither the start's nor may come
abbrev pub must_lack : Places → NodeId → Bool
must_lack p (place.Cell index) = nat_le p.cells index
must_lack p (place.Log epoch index) = if is_first p epoch then nat_le p.logs index else not (may_come p epoch)
must_lack p (place.Sequencer epoch) = if is_first p epoch then false else not (may_come p epoch)
must_lack p node = false

-- a directory may have no such node: that holds of those too of epochs that may come, since nobody knows whether they have come yet
abbrev pub may_lack : Places → NodeId → Bool
may_lack p (place.Cell index) = nat_le p.cells index
may_lack p (place.Log epoch index) = if is_first p epoch then nat_le p.logs index else true
may_lack p (place.Sequencer epoch) = not (is_first p epoch)
may_lack p node = false

-- what a directory of these places answers to an ask
pub record IsAnswered (C L : Type 0) (places : Places) (stamp : ℕ) (from to : NodeId) (a : Ask) (result : Result (ℕ × Tell) DirectoryFault) : Type 0 where
  pub above : IfOk result (λ got. stamp < got.0)
  pub told : IfOk result (λ got. IsAnswer a got.1)
  pub kind : (result ≡ Err fault.NotAsked) ↔ (is_asked_of to a ≡ false)
  pub there : (result ≡ Err fault.NotThere) → may_lack places to ≡ true
  pub lacking : must_lack places to ≡ true → is_asked_of to a ≡ true → result ≡ Err fault.NotThere
  pub called : IfOk result (λ got. IsCall C L stamp from a (Ok got))
  pub uncalled : IfErr result (IsUncalled (IsCall C L stamp from a))

-- the same of a crash
pub record IsCrashAnswered (C L : Type 0) (places : Places) (stamp : ℕ) (node : NodeId) (result : Result ℕ DirectoryFault) : Type 0 where
  pub above : IfOk result (λ at. stamp < at)
  pub kind : (result ≡ Err fault.NotAsked) ↔ (answers node ≡ false)
  pub there : (result ≡ Err fault.NotThere) → may_lack places node ≡ true
  pub lacking : must_lack places node ≡ true → answers node ≡ true → result ≡ Err fault.NotThere
  pub crashed : IfOk result (λ at. IsCrash C L stamp node (Ok at))
  pub uncrashed : IfErr result (IsUnstruck (IsCrash C L stamp node))
