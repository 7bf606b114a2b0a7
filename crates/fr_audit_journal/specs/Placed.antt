-- An entry that the code merged, as its contracts see it.
use Rattle.fr_audit_journal.specs.Merge.{Placed}
use Rattle.fr_audit_journal.specs.declared.merging.NodeEntry.{NodeEntry}

abbrev pub placed_of : NodeEntry → Placed
placed_of e = record { node = e.node; entry = e.entry.now }
