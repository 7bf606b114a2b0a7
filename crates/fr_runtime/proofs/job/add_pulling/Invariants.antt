use Rattle.std.proofs.Common.{◌≡◌, ◌++◌}
use Rattle.std.specs.Vec.Iter.{into_iter_items}
use Rattle.fr_runtime.specs.Job.{pull_jobs}
use Rattle.fr_runtime.proofs.job.add_pulling.Given as goal

-- with those of the storage servers that are left, the jobs are all
abbrev pub invariant-loop-storage : goal.invariant-loop-storage
invariant-loop-storage g l = record {
  can : (goal.iterator-loop-storage g).can_next l.storage-iterator;
  ends : (goal.iterator-loop-storage g).is_finite l.storage-iterator;
  jobs : l.all.items ++ pull_jobs (into_iter_items l.storage-iterator) ≡ l.fn.all.items ++ pull_jobs l.fn.stores.items;
}
