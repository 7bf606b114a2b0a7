use Rattle.fr_tail.specs.Merging.{IsLeastOf}
use Rattle.fr_tail.proofs.tail.Tail.least.Given as goal

-- the least record that is left of the tags so far
abbrev pub invariant-loop-number : goal.invariant-loop-number
invariant-loop-number l = IsLeastOf l.self l.taken l.number l.least
