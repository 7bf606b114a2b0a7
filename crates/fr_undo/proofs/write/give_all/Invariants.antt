use Rattle.std.proofs.Common.{◌≡◌, ℕ, ◌+◌, ◌≤◌, List, ◌++◌, length, IsSome, IfSome}
use Rattle.std.specs.Prelude.{vec_capacity}
use Rattle.std.specs.List.Sorted.{IsStrictlySortedBy}
use Rattle.std.specs.Map.{keys_of, lookup}
use Rattle.std.specs.BTreeMap as tree
use Rattle.std.specs.BTreeMap.{is_at}
use Rattle.fr_base.specs.Bytes.{bytes_cmp}
use Rattle.fr_undo.specs.Plan.{acted, given, fates_of, taken_back, HasPlace}
use Rattle.fr_undo.proofs.write.give_all.Given as goal

-- what is left to be given makes of the contents so far what all makes of the first ones, and what was given can be taken back
abbrev pub invariant-loop-key : goal.invariant-loop-key
invariant-loop-key l = record {
  sorted : IsStrictlySortedBy bytes_cmp (keys_of l.key-iterator.rest.items);
  order : IsStrictlySortedBy bytes_cmp (keys_of l.initial.key-iterator.rest.items);
  value : (q : List ℕ) → acted given (lookup (is_at (bytes_cmp q)) l.key-iterator.rest.items) (tree.get bytes_cmp l.contents q) ≡ acted given (lookup (is_at (bytes_cmp q)) l.initial.key-iterator.rest.items) (tree.get bytes_cmp l.initial.contents q);
  still : (q : List ℕ) → IsSome (lookup (is_at (bytes_cmp q)) l.key-iterator.rest.items) → tree.get bytes_cmp l.contents q ≡ tree.get bytes_cmp l.initial.contents q;
  made : l.fates.items ++ fates_of (tree.get bytes_cmp l.initial.contents) l.key-iterator.rest.items ≡ fates_of (tree.get bytes_cmp l.initial.contents) l.initial.key-iterator.rest.items;
  room : length l.fates.items + length l.key-iterator.rest.items ≤ vec_capacity l.fates;
  back : (q : List ℕ) → acted taken_back (lookup (is_at (bytes_cmp q)) l.fates.items) (tree.get bytes_cmp l.contents q) ≡ tree.get bytes_cmp l.initial.contents q;
  places : (q : List ℕ) → IfSome (lookup (is_at (bytes_cmp q)) l.fates.items) (λ fate. HasPlace fate (tree.get bytes_cmp l.contents q));
}
