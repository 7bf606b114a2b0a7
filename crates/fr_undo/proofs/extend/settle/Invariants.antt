use Rattle.std.proofs.Common.{◌≡◌, ℕ, ◌+◌, ◌≤◌, List, ◌++◌, length, deque_capacity, IsSome}
use Rattle.std.specs.List.Sorted.{IsStrictlySortedBy}
use Rattle.std.specs.Map.{keys_of, lookup}
use Rattle.std.specs.BTreeMap as tree
use Rattle.std.specs.BTreeMap.{is_at}
use Rattle.fr_base.specs.Bytes.{bytes_cmp}
use Rattle.fr_undo.specs.Rows.{rows_left}
use Rattle.fr_undo.specs.Plan.{acted, finished}
use Rattle.fr_undo.proofs.extend.settle.Given as goal

-- what is left to be finished makes of the contents so far what all makes of the first ones
abbrev pub invariant-loop-key : goal.invariant-loop-key
invariant-loop-key l = record {
  sorted : IsStrictlySortedBy bytes_cmp (keys_of l.key-iterator.rest.items);
  value : (q : List ℕ) → acted finished (lookup (is_at (bytes_cmp q)) l.key-iterator.rest.items) (tree.get bytes_cmp l.contents q) ≡ acted finished (lookup (is_at (bytes_cmp q)) l.initial.key-iterator.rest.items) (tree.get bytes_cmp l.initial.contents q);
  still : (q : List ℕ) → IsSome (lookup (is_at (bytes_cmp q)) l.key-iterator.rest.items) → tree.get bytes_cmp l.contents q ≡ tree.get bytes_cmp l.initial.contents q;
  rows : l.rows.items ++ rows_left l.version (tree.get bytes_cmp l.initial.contents) l.key-iterator.rest.items ≡ l.initial.rows.items ++ rows_left l.version (tree.get bytes_cmp l.initial.contents) l.initial.key-iterator.rest.items;
  room : length l.rows.items + length l.key-iterator.rest.items ≤ deque_capacity l.rows;
}
