use Rattle.std.proofs.Common.{◌≡◌, ℕ, List}
use Rattle.std.specs.Option.{option_or}
use Rattle.std.specs.List.Sorted.{IsStrictlySortedBy}
use Rattle.std.specs.Map.{lookup, keys_of}
use Rattle.std.specs.BTreeMap as tree
use Rattle.std.specs.BTreeMap.{is_at}
use Rattle.fr_base.specs.Bytes.{bytes_cmp}
use Rattle.fr_undo.specs.Plan.{change_by}
use Rattle.fr_undo.proofs.changes.changes_by.Given as goal

-- the changes so far and those of what is left are those of the plan
abbrev pub invariant-loop-key : goal.invariant-loop-key
invariant-loop-key l = record {
  sorted : IsStrictlySortedBy bytes_cmp (keys_of l.key-iterator.rest.items);
  made : (q : List ℕ) → option_or (change_by (tree.get bytes_cmp l.contents q) (lookup (is_at (bytes_cmp q)) l.key-iterator.rest.items)) (tree.get bytes_cmp l.changes q)
      ≡ change_by (tree.get bytes_cmp l.contents q) (lookup (is_at (bytes_cmp q)) l.initial.key-iterator.rest.items);
}
