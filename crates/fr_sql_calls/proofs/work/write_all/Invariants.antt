use Rattle.std.proofs.Common.{◌≡◌, ℕ, List, IfSome, IsTrue}
use Rattle.std.specs.List.Sorted.{IsStrictlySortedBy}
use Rattle.std.specs.Map.{lookup, keys_of}
use Rattle.std.specs.BTreeMap.{is_at}
use Rattle.sqlite.specs.Held.{state}
use Rattle.fr_base.specs.Bytes.{bytes_cmp}
use Rattle.fr_undo.specs.Changes.{written_if}
use Rattle.fr_sql_rows.specs.Rows.{value_in}
use Rattle.fr_sql_rows.specs.Connection.{IsLaidOut, IsInside, CommitsNothing, Stays}
use Rattle.fr_sql_calls.specs.Work.{differs}
use Rattle.fr_sql_calls.proofs.work.write_all.Given as goal

-- what is left to be written makes of the values so far what all makes of the first ones
abbrev pub invariant-loop-key : goal.invariant-loop-key
invariant-loop-key g l =
    let first = state g.S.Store l.fn.tx.conn.now in
    let now = state g.S.Store l.tx.conn.now in
    record {
      can : (goal.iterator-loop-key g).can_next l.key-iterator;
      ends : (goal.iterator-loop-key g).is_finite l.key-iterator;
      sorted : IsStrictlySortedBy bytes_cmp (keys_of l.key-iterator);
      same : l.tx.conn.ghost_name ≡ l.initial.tx.conn.ghost_name;
      inside : IsInside now;
      laid : IsLaidOut now.now;
      stays : Stays first now;
      survives : CommitsNothing first now;
      know : (q : List ℕ) → IfSome (lookup (is_at (bytes_cmp q)) l.key-iterator) (λ change. IsTrue (differs change) → change.before ≡ value_in (now.now.trees 0) q);
      values : (q : List ℕ) → written_if differs (lookup (is_at (bytes_cmp q)) l.key-iterator) (value_in (now.now.trees 0) q) ≡ written_if differs (lookup (is_at (bytes_cmp q)) l.initial.key-iterator) (value_in (first.now.trees 0) q);
      undo : now.now.trees 2 ≡ first.now.trees 2;
      meta : now.now.trees 4 ≡ first.now.trees 4;
    }
