use Rattle.std.specs.Vec.Iter.{into_iter_items}
use Rattle.fr_runtime.specs.Sworn.{AllTaken}
use Rattle.fr_runtime.proofs.Threads.{Starts}
use Rattle.fr_runtime.proofs.spawn.start_each.Given as goal

-- with threads for the jobs that are left, there is one for each, and those may be done
abbrev pub invariant-loop-job : goal.invariant-loop-job
invariant-loop-job g l = record {
  can : (goal.iterator-loop-job g).can_next l.job-iterator;
  ends : (goal.iterator-loop-job g).is_finite l.job-iterator;
  starts : Starts l.worker l.fn.jobs.items l.handles.items (into_iter_items l.job-iterator);
  taken : AllTaken (g.W.Worker.Takes l.worker) (into_iter_items l.job-iterator);
}
