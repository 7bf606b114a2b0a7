use Rattle.std.proofs.Common.{◌≡◌, ℕ, List}
use Rattle.std.specs.FinMap.{find}
use Rattle.std.specs.Option.{option_or}
use Rattle.std.specs.BTreeMap as tree
use Rattle.fr_base.specs.Bytes.{bytes_cmp}
use Rattle.fr_sql_calls.proofs.known.add_pairs.Given as goal

-- what is known and what is left are all of the rows
abbrev pub invariant-loop-key : goal.invariant-loop-key
invariant-loop-key l = record {
  can_next : (goal.iterator-loop-key).can_next l.key-iterator;
  is_finite : (goal.iterator-loop-key).is_finite l.key-iterator;
  rows : (q : List ℕ) → option_or (tree.get bytes_cmp l.known q) (find bytes_cmp q l.key-iterator.rest.items) ≡ option_or (tree.get bytes_cmp l.initial.known q) (find bytes_cmp q l.initial.key-iterator.rest.items);
}
