-- The journal of a node, as contracts see it.
use Rattle.std.specs.Prelude.{ℕ, ◌<◌, List, [], ◌∷◌, Option, None, Some, IfSome}
use Rattle.fr_base.specs.declared.place.NodeId.{NodeId}
use Rattle.fr_ask.specs.declared.last.Last.{Last}
use Rattle.fr_audit_journal.specs.declared.act.Entry.{Entry}

-- what the node did, the oldest first, its last state, if that was said, and for how many entries more there is room
pub record JournalState : Type 0 where
  pub node : NodeId
  pub entries : List Entry
  pub last : Option Last
  pub room : ℕ

-- each stamp is above the one before
abbrev pub RiseFrom : ℕ → List Entry → Type 0
RiseFrom stamp [] = Unit {0}
RiseFrom stamp (e ∷ es) = (stamp < e.stamp) × RiseFrom e.stamp es

abbrev pub Rise : List Entry → Type 0
Rise [] = Unit {0}
Rise (e ∷ es) = RiseFrom e.stamp es

-- the stamp of the last entry
abbrev pub last_from : ℕ → List Entry → ℕ
last_from stamp [] = stamp
last_from stamp (e ∷ es) = last_from e.stamp es

abbrev pub last_stamp : List Entry → Option ℕ
last_stamp [] = None
last_stamp (e ∷ es) = Some (last_from e.stamp es)

-- a stamp is above that of the last entry, and so above all
abbrev pub IsAbove : List Entry → ℕ → Type 0
IsAbove es stamp = IfSome (last_stamp es) (λ last. last < stamp)
