use Rattle.std.proofs.Common.{◌≡◌, take}
use Rattle.std.specs.Prelude.{map}
use Rattle.fr_audit_journal.specs.Merge.{all_placed}
use Rattle.fr_audit_journal.specs.Placed.{placed_of}
use Rattle.fr_audit_journal.proofs.merging.all_entries.Given as goal

-- the entries of a front of the journals
abbrev pub invariant-loop-journal : goal.invariant-loop-journal
invariant-loop-journal l = map placed_of l.entries.items ≡ all_placed (take l.journal-index l.journals)
