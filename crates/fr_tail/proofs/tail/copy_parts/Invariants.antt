use Rattle.std.proofs.Common.{◌≡◌, take}
use Rattle.fr_tail.proofs.tail.copy_parts.Given as goal

-- a front of the parts is copied
abbrev pub invariant-loop-part : goal.invariant-loop-part
invariant-loop-part l = l.copy.items ≡ take l.part-index l.parts
