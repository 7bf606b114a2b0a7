use Rattle.std.proofs.Common.{◌≡◌, ◌++◌}
use Rattle.std.specs.Vec.Iter.{into_iter_items}
use Rattle.fr_runtime.specs.Job.{oks}
use Rattle.fr_runtime.proofs.job.without_fault.Given as goal

-- what was handed back, and what is left, are all
abbrev pub invariant-loop-thread : goal.invariant-loop-thread
invariant-loop-thread g l = record {
  can : (goal.iterator-loop-thread g).can_next l.thread-iterator;
  ends : (goal.iterator-loop-thread g).is_finite l.thread-iterator;
  all : oks l.all.items ++ into_iter_items l.thread-iterator ≡ l.fn.threads.items;
}
