use Rattle.std.proofs.Common.{◌≡◌, take}
use Rattle.fr_tail.proofs.part.TagCopy.copy.Given as goal

-- a front of the records is copied
abbrev pub invariant-loop-record : goal.invariant-loop-record
invariant-loop-record l = l.records.items ≡ take l.record-index l.self.records
