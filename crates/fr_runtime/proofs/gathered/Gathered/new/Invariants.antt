use Rattle.std.proofs.Common.{◌≡◌, ◌++◌}
use Rattle.std.specs.Vec.Iter.{into_iter_items}
use Rattle.fr_runtime.specs.Job.{all_journals, all_told, all_works}
use Rattle.fr_runtime.proofs.gathered.Gathered.new.Given as goal

-- with what the threads that are left handed back, it is all
abbrev pub invariant-loop-thread : goal.invariant-loop-thread
invariant-loop-thread g l = record {
  can : (goal.iterator-loop-thread g).can_next l.thread-iterator;
  ends : (goal.iterator-loop-thread g).is_finite l.thread-iterator;
  journals : l.all.journals.items ++ all_journals (into_iter_items l.thread-iterator) ≡ l.fn.journals.items ++ all_journals l.fn.done.items;
  told : l.all.told.items ++ all_told (into_iter_items l.thread-iterator) ≡ all_told l.fn.done.items;
  works : l.all.works.items ++ all_works (into_iter_items l.thread-iterator) ≡ all_works l.fn.done.items;
}
