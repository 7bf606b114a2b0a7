use Rattle.std.proofs.Common.{◌≡◌, ◌++◌, ◌+◌}
use Rattle.std.specs.Vec.{vec_len}
use Rattle.std.specs.Vec.Iter.{into_iter_items, into_iter_len}
use Rattle.fr_runtime.specs.Job.{serve_jobs}
use Rattle.fr_runtime.proofs.job.add_serving.Given as goal

-- with those of the workloads that are left, the jobs are all; and the number is that of the next
abbrev pub invariant-loop-work : goal.invariant-loop-work
invariant-loop-work g l = record {
  can : (goal.iterator-loop-work g).can_next l.work-iterator;
  ends : (goal.iterator-loop-work g).is_finite l.work-iterator;
  jobs : l.all.items ++ serve_jobs l.number (into_iter_items l.work-iterator) ≡ l.fn.all.items ++ serve_jobs 0 l.fn.workloads.items;
  count : l.number + into_iter_len l.work-iterator ≡ vec_len l.fn.workloads;
}
