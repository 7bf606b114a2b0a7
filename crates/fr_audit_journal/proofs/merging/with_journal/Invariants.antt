use Rattle.std.proofs.Common.{◌≡◌, ◌++◌, take}
use Rattle.std.specs.Prelude.{map}
use Rattle.fr_audit_journal.specs.Merge.{placed_by}
use Rattle.fr_audit_journal.specs.Placed.{placed_of}
use Rattle.fr_audit_journal.proofs.merging.with_journal.Given as goal

-- a front of the journal's entries is added
abbrev pub invariant-loop-entry : goal.invariant-loop-entry
invariant-loop-entry l = map placed_of l.entries.items ≡ map placed_of l.fn.entries.items ++ placed_by l.journal.node (take l.entry-index l.journal.entries)
