use Rattle.std.proofs.Common.{◌≡◌, List, [], ℕ}
use Rattle.std.specs.Option.{option_or}
use Rattle.std.specs.List.Sorted.{IsStrictlySortedBy}
use Rattle.std.specs.Map.{lookup, keys_of}
use Rattle.std.specs.BTreeMap as tree
use Rattle.std.specs.BTreeMap.{is_at}
use Rattle.fr_base.specs.Bytes.{bytes_cmp}
use Rattle.fr_undo.specs.Plan.{planned as planned_of}
use Rattle.fr_undo.proofs.plan.Plan.to_tree.Given as goal

-- what is left and what moved are all
abbrev pub invariant-loop-key : goal.invariant-loop-key
invariant-loop-key l = record {
  list : l.self.rising.items ≡ [];
  sorted : IsStrictlySortedBy bytes_cmp (keys_of l.key-iterator.rest.items);
  planned : (q : List ℕ) → option_or (lookup (is_at (bytes_cmp q)) l.key-iterator.rest.items) (tree.get bytes_cmp l.self.tree q) ≡ planned_of l.fn.self q;
}
