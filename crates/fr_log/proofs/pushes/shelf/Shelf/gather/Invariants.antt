use Rattle.std.proofs.Common.{◌≡◌, ◌≤◌, ◌++◌, length, map}
use Rattle.fr_log.specs.Pushes.{as_record}
use Rattle.fr_log.proofs.pushes.shelf.Shelf.gather.Given as goal

-- what is given so far, of which there is room for all, and what is left
abbrev pub invariant-loop-version : goal.invariant-loop-version
invariant-loop-version l = record {
  can : (goal.iterator-loop-version).can_next l.version-iterator;
  ends : (goal.iterator-loop-version).is_finite l.version-iterator;
  rows : l.given.items ++ map as_record l.version-iterator ≡ l.initial.given.items ++ map as_record l.initial.version-iterator;
  room : length l.given.items ≤ l.most;
}
