use Rattle.std.proofs.Common.{◌≡◌, ℕ, List, None, Ok, cond}
use Rattle.std.specs.Option.{option_or}
use Rattle.std.specs.BTreeMap as tree
use Rattle.sqlite.specs.Held.{state}
use Rattle.fr_base.specs.Bytes.{bytes_cmp}
use Rattle.fr_sql_rows.specs.Rows.{value_in}
use Rattle.fr_sql_calls.specs.WorkCalls.{Looks}
use Rattle.fr_sql_calls.specs.Known.{has_row}
use Rattle.fr_sql_calls.proofs.known.held_at.Given as goal

-- what is known and what is left to be looked up are what all of the rows are of
abbrev pub invariant-loop-key : goal.invariant-loop-key
invariant-loop-key g l =
    let first = state g.S.Store l.fn.conn in
    let held = value_in (first.now.trees 0) in
    record {
      can : (goal.iterator-loop-key g).can_next l.key-iterator;
      ends : (goal.iterator-loop-key g).is_finite l.key-iterator;
      looks : Looks {T = Unit {0}} first (state g.S.Store l.conn) (Ok tt);
      known : (q : List ℕ) → option_or (tree.get bytes_cmp l.known q) (cond (has_row l.key-iterator q) (held q) None) ≡ cond (has_row l.initial.key-iterator q) (held q) None;
    }
