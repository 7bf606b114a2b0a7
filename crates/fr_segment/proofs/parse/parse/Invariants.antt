use Rattle.std.proofs.Common.{length, ◌-◌}
use Rattle.fr_segment.proofs.ParseLemmas.{IsSoFar}
use Rattle.fr_segment.proofs.parse.parse.Given as goal

abbrev pub invariant-loop-at : goal.invariant-loop-at
invariant-loop-at l = record { so_far : IsSoFar l.bytes l.table.items l.at l.count }

abbrev pub decreases-loop-at : goal.decreases-loop-at
decreases-loop-at l = length l.bytes - l.at
