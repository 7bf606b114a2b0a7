-- What a node did in its process, as contracts see it.
use Rattle.std.specs.Prelude.{ℕ, List}
use Rattle.fr_base.specs.declared.place.NodeId.{NodeId}
use Rattle.fr_audit_journal.specs.declared.act.Entry.{Entry}

-- the node, what it did, the oldest first, and for how many entries more there is room
pub record CourseState : Type 0 where
  pub node : NodeId
  pub entries : List Entry
  pub room : ℕ
