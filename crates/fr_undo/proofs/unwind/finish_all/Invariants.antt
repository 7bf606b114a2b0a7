use Rattle.std.proofs.Common.{◌≡◌, ℕ, List}
use Rattle.std.specs.List.Sorted.{IsStrictlySortedBy}
use Rattle.std.specs.Map.{keys_of, lookup}
use Rattle.std.specs.BTreeMap as tree
use Rattle.std.specs.BTreeMap.{is_at}
use Rattle.fr_base.specs.Bytes.{bytes_cmp}
use Rattle.fr_undo.specs.Plan.{acted, finished}
use Rattle.fr_undo.proofs.unwind.finish_all.Given as goal

-- what is left to be finished makes of the contents so far what all makes of the first ones
abbrev pub invariant-loop-key : goal.invariant-loop-key
invariant-loop-key l = record {
  sorted : IsStrictlySortedBy bytes_cmp (keys_of l.key-iterator.rest.items);
  value : (q : List ℕ) → acted finished (lookup (is_at (bytes_cmp q)) l.key-iterator.rest.items) (tree.get bytes_cmp l.contents q) ≡ acted finished (lookup (is_at (bytes_cmp q)) l.initial.key-iterator.rest.items) (tree.get bytes_cmp l.initial.contents q);
}
