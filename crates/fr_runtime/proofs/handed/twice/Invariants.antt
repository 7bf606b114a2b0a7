use Rattle.std.proofs.Common.{◌≡◌, drop}
use Rattle.fr_runtime.specs.Handed.{are_of_one_each}
use Rattle.fr_runtime.proofs.handed.twice.Given as goal

-- no node has two exactly where none of the rest has
abbrev pub invariant-loop-at : goal.invariant-loop-at
invariant-loop-at l = are_of_one_each l.journals ≡ are_of_one_each (drop l.at l.journals)
