use Rattle.std.proofs.Common.{◌≡◌, ◌||◌, ℕ, List}
use Rattle.fr_mutation.specs.Mutation.{is_between}
use Rattle.fr_undo.specs.Changes.{covers}
use Rattle.fr_undo.proofs.ranges.with_range.Given as goal

-- the ranges so far with those that are left hold what all of them hold
abbrev pub invariant-loop-range : goal.invariant-loop-range
invariant-loop-range l = (q : List ℕ) → ((covers l.apart.items q || is_between l.merged.0 l.merged.1 q) || covers l.range-iterator.rest.items q) ≡ (covers l.fn.ranges.items q || is_between l.fn.begin l.fn.end q)
