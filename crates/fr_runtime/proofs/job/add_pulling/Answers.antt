use Rattle.std.proofs.Common.{refl, ap, ◌≡◌, ◌++◌, ◌∷◌, [], arith}
use Rattle.std.proofs.lemmas.Grind.{common_steps}
use Rattle.std.specs.Vec.Iter.{into_iter_items}
use Rattle.fr_runtime.specs.declared.job.Job.TheVariants.{Pull}
use Rattle.fr_runtime.specs.Job.{pull_jobs}
use Rattle.fr_runtime.proofs.Gathers.{put-all, put-more}
use Rattle.fr_runtime.proofs.job.add_pulling.Goals as goal

pub loop-storage-init : goal.loop-storage-init
loop-storage-init g c = record {
  can = tt;
  ends = tt;
  jobs = ap (λ (l : _). c.args.all.now.items ++ pull_jobs l) c.into_iter-storage-iterator.ensures.into_iter_gives.0;
}

pub loop-storage-preserved : goal.loop-storage-preserved
loop-storage-preserved g c = record {
  can = tt;
  ends = tt;
  jobs = put-more pull_jobs pull_jobs c.loop-storage.all.items c.put.new.all.items (Pull c.in-Some.storage ∷ []) _ c.in-Some.storage _ (into_iter_items c.next.new.self) c.in_ok-put.ensures c.in-Some.ensures.steps.0 refl c.loop-storage.invariant.jobs;
}

pub returns : goal.returns
returns g c =
    let ended : into_iter_items c.loop-storage.storage-iterator ≡ [] = grind (arith, common_steps) in
    put-all pull_jobs c.loop-storage.all.items _ _ ended refl c.loop-storage.invariant.jobs
