-- Whose journals a cluster hands back.
use Rattle.std.specs.Prelude.{◌≡◌, ◌⊎◌, ◌&&◌, not, Bool, true, false, List, [], ◌∷◌, All, Err}
use Rattle.std.specs.List.{list_any}
use Rattle.fr_base.specs.Node.{is_same_node}
use Rattle.fr_base.specs.declared.place.NodeId.{NodeId}
use Rattle.fr_run.specs.Config.{Config}
use Rattle.fr_run.specs.Nodes.{is_there}
use Rattle.fr_run.specs.Turn.{Turn, actor_of}
use Rattle.fr_audit.specs.Audited.{audited}
use Rattle.fr_audit.specs.declared.fault.AuditFault.{AuditFault}
use Rattle.fr_audit.specs.declared.fault.AuditFault.TheVariants.{StateDiffers}
use Rattle.fr_audit_journal.specs.Journal.{JournalState}

-- whether one of these is the journal of a node
abbrev pub has_journal : NodeId → List JournalState → Bool
has_journal who js = list_any (λ j. is_same_node j.node who) js

-- whether no two are of one node
abbrev pub are_of_one_each : List JournalState → Bool
are_of_one_each [] = true
are_of_one_each (j ∷ js) = not (has_journal j.node js) && are_of_one_each js

-- each node that is there at the start has its journal
abbrev pub HasStart : Config → List JournalState → Type 0
HasStart c js = (who : NodeId) → is_there c [] who ≡ true → has_journal who js ≡ true

-- so has each other whose turn the run has, and no node has two
pub record IsHanded (c : Config) (js : List JournalState) (h : List Turn) : Type 0 where
  pub start : HasStart c js
  pub others : All (λ t. has_journal (actor_of t) js ≡ true) h
  pub each : are_of_one_each js ≡ true

-- a node that is there at the start has no journal, or some node has two
abbrev pub IsUnlike : Config → List JournalState → NodeId → Type 0
IsUnlike c js who = ((is_there c [] who ≡ true) × (has_journal who js ≡ false)) ⊎ (are_of_one_each js ≡ false)

-- why these are no run of a config: the journals are not one of each node, or what their audit finds
abbrev pub IsFaultIn : Config → List JournalState → AuditFault → Type 0
IsFaultIn c js fault = ((who : NodeId) × (fault ≡ StateDiffers who) × IsUnlike c js who) ⊎ (audited c js ≡ Err fault)
