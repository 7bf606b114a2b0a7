use Rattle.std.proofs.Common.{◌≡◌, drop}
use Rattle.fr_log.specs.Left.{popped_of}
use Rattle.fr_log.proofs.pushes.through.Given as goal

-- none of the entries so far is of the tag
abbrev pub invariant-loop-entry : goal.invariant-loop-entry
invariant-loop-entry l = popped_of (drop l.entry-index l.popped) l.number ≡ popped_of l.popped l.number
