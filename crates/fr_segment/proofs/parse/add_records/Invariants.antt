use Rattle.std.proofs.Common.{◌-◌, ◌≤◌}
use Rattle.fr_segment.specs.Group.{AreRecords}
use Rattle.fr_segment.proofs.parse.add_records.Given as goal

abbrev pub invariant-loop-at : goal.invariant-loop-at
invariant-loop-at l = record { records : AreRecords l.bytes l.start l.at l.initial.table.items l.table.items; within : l.at ≤ l.end }

abbrev pub decreases-loop-at : goal.decreases-loop-at
decreases-loop-at l = l.end - l.at
