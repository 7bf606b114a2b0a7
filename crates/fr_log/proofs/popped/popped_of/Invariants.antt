use Rattle.std.proofs.Common.{◌≡◌, drop}
use Rattle.fr_log.specs.Left.{popped_of}
use Rattle.fr_log.proofs.popped.popped_of.Given as goal

-- none of the entries so far is of the tag
abbrev pub invariant-loop-entry : goal.invariant-loop-entry
invariant-loop-entry l = popped_of (drop l.entry-index l.popped) l.tag ≡ popped_of l.popped l.tag
