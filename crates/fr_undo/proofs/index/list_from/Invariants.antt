use Rattle.std.proofs.Common.{◌≡◌, ◌⊎◌, ℕ, List, true, IsSome}
use Rattle.std.specs.VecDeque.Iter.{deque_iter_rest}
use Rattle.fr_undo.specs.Rows.{row_in}
use Rattle.fr_undo.specs.Index.{is_listed}
use Rattle.fr_undo.proofs.index.list_from.Given as goal

-- each row is listed, or left; what is listed was, or is a row
abbrev pub invariant-loop-row : goal.invariant-loop-row
invariant-loop-row l = record {
  can : (goal.iterator-loop-row).can_next l.row-iterator;
  ends : (goal.iterator-loop-row).is_finite l.row-iterator;
  kept : (q : List ℕ) (w : ℕ) → is_listed l.initial.places q w ≡ true → is_listed l.places q w ≡ true;
  all : (w : ℕ) (q : List ℕ) → IsSome (row_in (deque_iter_rest l.initial.row-iterator) (w, q)) → (is_listed l.places q w ≡ true) ⊎ IsSome (row_in (deque_iter_rest l.row-iterator) (w, q));
  only : ((w : ℕ) (q : List ℕ) → is_listed l.initial.places q w ≡ true → IsSome (row_in l.rows.items (w, q))) → (w : ℕ) (q : List ℕ) → is_listed l.places q w ≡ true → IsSome (row_in l.rows.items (w, q));
  behind : (w : ℕ) (q : List ℕ) → IsSome (row_in (deque_iter_rest l.row-iterator) (w, q)) → IsSome (row_in l.rows.items (w, q));
}
