use Rattle.std.proofs.Common.{◌≡◌, ℕ, List, None, IsSome}
use Rattle.std.specs.Option.{option_or}
use Rattle.std.specs.List.Sorted.{IsStrictlySortedBy}
use Rattle.std.specs.Map.{lookup, keys_of}
use Rattle.std.specs.FinMap as map
use Rattle.std.specs.BTreeMap.{is_at}
use Rattle.sqlite.specs.Held.{state}
use Rattle.fr_base.specs.Bytes.{bytes_cmp}
use Rattle.fr_undo.specs.State.{Place}
use Rattle.fr_undo.proofs.ChangeLemmas.{row_by}
use Rattle.fr_sql_rows.specs.Rows.{before_in, undo_in}
use Rattle.fr_sql_rows.specs.Connection.{IsLaidOut, IsInside, CommitsNothing, Stays}
use Rattle.fr_sql_calls.proofs.work.note_all.Given as goal

-- the rows so far and those of what is left are those of all changes
abbrev pub invariant-loop-key : goal.invariant-loop-key
invariant-loop-key g l =
    let first = state g.S.Store l.fn.tx.conn.now in
    let now = state g.S.Store l.tx.conn.now in
    record {
      can : (goal.iterator-loop-key g).can_next l.key-iterator;
      ends : (goal.iterator-loop-key g).is_finite l.key-iterator;
      sorted : IsStrictlySortedBy bytes_cmp (keys_of l.key-iterator);
      same : l.tx.conn.ghost_name ≡ l.initial.tx.conn.ghost_name;
      inside : IsInside now;
      laid : IsLaidOut now.now;
      stays : Stays first now;
      survives : CommitsNothing first now;
      room : (q : List ℕ) → IsSome (lookup (is_at (bytes_cmp q)) l.key-iterator) → before_in (now.now.trees 2) (l.version, q) ≡ None;
      rows : (p : Place) → option_or (row_by l.key-iterator l.version p) (before_in (now.now.trees 2) p) ≡ option_or (row_by l.initial.key-iterator l.version p) (before_in (first.now.trees 2) p);
      kv : now.now.trees 0 ≡ first.now.trees 0;
      meta : now.now.trees 4 ≡ first.now.trees 4;
      count : l.rows ≡ map.len (undo_in (first.now.trees 2)) → l.count ≡ map.len (undo_in (now.now.trees 2));
    }
