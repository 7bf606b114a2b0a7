use Rattle.std.proofs.Common.{◌≡◌, ◌≤◌, drop, length}
use Rattle.fr_audit.specs.Audited.{first_unlike}
use Rattle.fr_audit.proofs.checking.first_unlike.Given as goal

abbrev pub decreases-loop-left : goal.decreases-loop-left
decreases-loop-left l = l.left

-- the first node of those whose journals come later
abbrev pub invariant-loop-left : goal.invariant-loop-left
invariant-loop-left l = (l.left ≤ length l.journals) × (l.first ≡ first_unlike l.world.config l.world.turns (drop l.left l.journals))
