use Rattle.std.proofs.Common.{◌≡◌}
use Rattle.std.specs.FinMap.{find}
use Rattle.std.specs.Option.{option_or}
use Rattle.std.specs.BTreeMap as tree
use Rattle.fr_undo.specs.State.{Place, place_cmp}
use Rattle.fr_sql_calls.proofs.known.tree_of.Given as goal

-- the rows that are there and those that are left are all of them
abbrev pub invariant-loop-place : goal.invariant-loop-place
invariant-loop-place l = record {
  can_next : (goal.iterator-loop-place).can_next l.place-iterator;
  is_finite : (goal.iterator-loop-place).is_finite l.place-iterator;
  rows : (p : Place) → option_or (tree.get place_cmp l.found p) (find place_cmp p l.place-iterator.rest.items) ≡ option_or (tree.get place_cmp l.initial.found p) (find place_cmp p l.initial.place-iterator.rest.items);
}
