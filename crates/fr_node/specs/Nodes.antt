-- Nodes that ask others, each with its journal, as contracts see them.
use Rattle.std.specs.Prelude.{ℕ, ◌≡◌, ◌⊎◌, ◌-◌, ◌^◌, nat_lt, Bool, true, false, List, [], ◌∷◌, Option, None, Some, if◌then◌else◌}
use Rattle.fr_base.specs.declared.place.NodeId.{NodeId}
use Rattle.fr_audit_journal.specs.declared.act.Entry.{Entry}
use Rattle.fr_proxy.specs.declared.fault.SubmitFault.{SubmitFault}
use Rattle.fr_proxy.specs.declared.fault.SubmitFault.TheVariants as submit
use Rattle.fr_proxy.specs.Proxy.{ProxyState, submit_fault}
use Rattle.fr_mutation.specs.declared.shard.Shard.{Shard}
use Rattle.fr_storage.specs.declared.fault.ReadFault.{ReadFault}
use Rattle.fr_storage.specs.declared.fault.ReadFault.TheVariants as read
use Rattle.fr_storage.specs.Reads.{read_fault}
use Rattle.fr_storage.specs.Server.{Server}
use Rattle.fr_storage.specs.Storage.{StorageState}
use Rattle.fr_node.specs.Passive.{are_spent}
use Rattle.fr_node.specs.declared.turn.NodeTurn.{NodeTurn}
use Rattle.fr_node.specs.declared.turn.NodeTurn.TheVariants as turn
use Rattle.fr_node.specs.declared.fault.TurnRefusal.{TurnRefusal}
use Rattle.fr_node.specs.declared.fault.TurnRefusal.TheVariants as refusal
use Rattle.fr_node.specs.declared.fault.NodeTurnFault.{NodeTurnFault}
use Rattle.fr_node.specs.declared.fault.NodeTurnFault.TheVariants as turn_fault
use Rattle.fr_node.specs.declared.fault.Crash.{Crash}
use Rattle.fr_node.specs.declared.fault.Crash.TheVariants as crash

-- a node, its place, the state in which its process began, and what it did since
pub record Active (S : Type 0) : Type 0 where
  pub state : S
  pub place : NodeId
  pub first : S
  pub entries : List Entry

-- a storage server too, with its shard, whether its store outlasts the process, and whether it failed so that it cannot go on
pub record ActiveStorage (S : Type 0) : Type 0 where
  pub storage : Server S
  pub shard : Shard
  pub place : NodeId
  pub first : Server S
  pub entries : List Entry
  pub has_files : Bool
  pub is_over : Bool

-- the reason if the stamps are spent
abbrev pub spent_refusal : List Entry → ℕ → Option TurnRefusal
spent_refusal entries at = if are_spent entries at then Some refusal.StampsSpent else None

-- ---- proxies

-- the reason why a proxy does not take a batch
abbrev pub submit_refusal : Option SubmitFault → Option TurnRefusal → Option TurnRefusal
submit_refusal None other = other
submit_refusal (Some submit.TwoOpen) other = Some refusal.TwoOpen
submit_refusal (Some submit.Over) other = Some refusal.Over
submit_refusal (Some submit.Memory) other = Some refusal.Over

abbrev pub proxy_refusal : ProxyState → List Entry → ℕ → NodeTurn → Option TurnRefusal
proxy_refusal p entries at (turn.Ask from a) = Some refusal.NotTaken
proxy_refusal p entries at (turn.Hear from tell) = spent_refusal entries at
proxy_refusal p entries at (turn.Submit step batch) = submit_refusal (submit_fault p) (spent_refusal entries at)
proxy_refusal p entries at turn.Begin = Some refusal.NotTaken

-- ---- recoverers

abbrev pub recoverer_refusal : Bool → List Entry → ℕ → NodeTurn → Option TurnRefusal
recoverer_refusal begun entries at (turn.Ask from a) = Some refusal.NotTaken
recoverer_refusal begun entries at (turn.Hear from tell) = if begun then spent_refusal entries at else Some refusal.NotBegun
recoverer_refusal begun entries at (turn.Submit step batch) = Some refusal.NotTaken
recoverer_refusal begun entries at turn.Begin = if begun then Some refusal.Begun else spent_refusal entries at

-- ---- storage servers

abbrev pub storage_refusal : List Entry → ℕ → NodeTurn → Option TurnRefusal
storage_refusal entries at (turn.Ask from a) = Some refusal.NotTaken
storage_refusal entries at (turn.Hear from tell) = spent_refusal entries at
storage_refusal entries at (turn.Submit step batch) = Some refusal.NotTaken
storage_refusal entries at turn.Begin = Some refusal.NotTaken

-- the reason why a storage server does not say which value a key had at a version
abbrev pub of_read : Option ReadFault → Option TurnRefusal
of_read None = None
of_read (Some read.NotMine) = Some refusal.NotMine
of_read (Some read.TooOld) = Some refusal.TooOld
of_read (Some read.FutureVersion) = Some refusal.FutureVersion
of_read (Some (read.Store fault)) = None

abbrev pub storage_read_refusal : Shard → StorageState → List ℕ → ℕ → Option TurnRefusal
storage_read_refusal shard s key version = of_read (read_fault shard s.store.floor s.store.applied key version)

-- the reason if there is no stamp for each of two entries
abbrev pub two_refusal : ℕ → Option TurnRefusal
two_refusal at = if nat_lt at (2 ^ 40 - 2) then None else Some refusal.StampsSpent

-- the reason why a storage server is not started again: its store ends with the process, or it did something since, or else the stamps are spent
abbrev pub storage_back_refusal : Bool → List Entry → ℕ → Option TurnRefusal
storage_back_refusal false entries at = Some refusal.NotTaken
storage_back_refusal true [] at = two_refusal at
storage_back_refusal true (e ∷ es) at = Some refusal.Begun

-- a node in memory alone goes on for as long as there is memory
abbrev pub IsMemory : Crash → Type 0
IsMemory why = why ≡ crash.Memory

-- one with a store, which may fail too
abbrev pub IsStoreCrash : Crash → Type 0
IsStoreCrash why = (why ≡ crash.Memory) ⊎ (why ≡ crash.Store)

abbrev pub IsStoreEnd : NodeTurnFault → Type 0
IsStoreEnd (turn_fault.Refused why) = ⊥
IsStoreEnd (turn_fault.Crashed why) = IsStoreCrash why
