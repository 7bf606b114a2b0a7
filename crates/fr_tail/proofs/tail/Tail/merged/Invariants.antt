use Rattle.std.proofs.Common.{◌≡◌, ◌++◌, length}
use Rattle.fr_tail.specs.Tail.{in_order}
use Rattle.fr_tail.specs.Merging.{all_left}
use Rattle.fr_tail.proofs.tail.Tail.merged.Given as goal

-- what is merged so far, and then what is left in order, is all that there was to merge in order
abbrev pub invariant-loop-number : goal.invariant-loop-number
invariant-loop-number l = record {
  so_far : l.records.items ++ in_order (all_left l.self l.taken) ≡ in_order (all_left l.self l.fn.taken);
  size : length l.taken ≡ 32;
}

abbrev pub decreases-loop-number : goal.decreases-loop-number
decreases-loop-number l = length (in_order (all_left l.self l.taken))
