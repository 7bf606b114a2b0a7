use Rattle.std.proofs.Common.{◌≡◌, ◌+◌, ◌≤◌, ◌++◌, length, map}
use Rattle.std.specs.Prelude.{vec_capacity}
use Rattle.std.specs.Vec.Iter.{into_iter_items}
use Rattle.fr_audit_journal.specs.Housing.{last_number}
use Rattle.fr_node.specs.Groups.{AreRising, entered}
use Rattle.fr_node.proofs.drafts.enter_all.Given as goal

-- what was entered, and what is left, are all
abbrev pub invariant-loop-draft : goal.invariant-loop-draft
invariant-loop-draft g l = record {
  can : (goal.iterator-loop-draft g).can_next l.draft-iterator;
  ends : (goal.iterator-loop-draft g).is_finite l.draft-iterator;
  node : l.course.node ≡ l.fn.course.node;
  made : l.entries.items ++ entered (into_iter_items l.draft-iterator) (map g.M.Named.wrapped_tell (into_iter_items l.rest)) ≡ entered l.fn.drafts.items (map g.M.Named.wrapped_tell l.fn.tells.items);
  course : l.course.entries ≡ l.fn.course.entries ++ l.entries.items;
  many : length (into_iter_items l.rest) ≡ length (into_iter_items l.draft-iterator);
  rise : AreRising (last_number l.course.entries) (into_iter_items l.draft-iterator);
  room : length l.entries.items + length (into_iter_items l.draft-iterator) ≤ vec_capacity l.entries;
  course_room : length (into_iter_items l.draft-iterator) ≤ l.course.room;
}
