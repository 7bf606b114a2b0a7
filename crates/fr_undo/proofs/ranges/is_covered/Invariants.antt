use Rattle.std.proofs.Common.{◌≡◌, drop}
use Rattle.fr_undo.specs.Changes.{covers}
use Rattle.fr_undo.proofs.ranges.is_covered.Given as goal

-- no range so far holds the key
abbrev pub invariant-loop-range : goal.invariant-loop-range
invariant-loop-range l = covers (drop l.range-index l.ranges) l.key ≡ covers l.ranges l.key
