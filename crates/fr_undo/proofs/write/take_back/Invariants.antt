use Rattle.std.proofs.Common.{◌≡◌, ℕ, List, IfSome}
use Rattle.std.specs.List.Sorted.{IsStrictlySortedBy}
use Rattle.std.specs.Map.{keys_of, lookup}
use Rattle.std.specs.BTreeMap as tree
use Rattle.std.specs.BTreeMap.{is_at}
use Rattle.fr_base.specs.Bytes.{bytes_cmp}
use Rattle.fr_undo.specs.Plan.{acted, taken_back, HasPlace}
use Rattle.fr_undo.proofs.write.take_back.Given as goal

-- what is left to be taken back makes of the contents so far what all makes of the first ones
abbrev pub invariant-loop-key : goal.invariant-loop-key
invariant-loop-key l = record {
  sorted : IsStrictlySortedBy bytes_cmp (keys_of l.key-iterator.rest.items);
  value : (q : List ℕ) → acted taken_back (lookup (is_at (bytes_cmp q)) l.key-iterator.rest.items) (tree.get bytes_cmp l.contents q) ≡ acted taken_back (lookup (is_at (bytes_cmp q)) l.initial.key-iterator.rest.items) (tree.get bytes_cmp l.initial.contents q);
  places : (q : List ℕ) → IfSome (lookup (is_at (bytes_cmp q)) l.key-iterator.rest.items) (λ fate. HasPlace fate (tree.get bytes_cmp l.contents q));
}
