use Rattle.std.proofs.Common.{◌≡◌, ◌+◌, ◌≤◌, ◌++◌, length}
use Rattle.std.specs.Prelude.{vec_capacity}
use Rattle.fr_undo.proofs.plan.Plan.into_entries.Given as goal

-- the entries so far, and those still to come
abbrev pub invariant-loop-entry : goal.invariant-loop-entry
invariant-loop-entry l = record {
  can : (goal.iterator-loop-entry).can_next l.entry-iterator;
  ends : (goal.iterator-loop-entry).is_finite l.entry-iterator;
  all : l.entries.items ++ l.entry-iterator ≡ l.initial.entry-iterator;
  room : length l.entries.items + length l.entry-iterator ≤ vec_capacity l.entries;
}
