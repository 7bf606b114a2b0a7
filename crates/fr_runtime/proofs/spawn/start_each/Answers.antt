use Rattle.std.proofs.Common.{◌≡◌, [], arith}
use Rattle.std.proofs.lemmas.Grind.{common_steps}
use Rattle.std.specs.Vec.Iter.{into_iter_items}
use Rattle.fr_runtime.proofs.Threads.{starts-all, starts-first, starts-more, taken-first, taken-next}
use Rattle.fr_runtime.proofs.spawn.start_each.Goals as goal

pub loop-job-init : goal.loop-job-init
loop-job-init g c = record {
  can = tt;
  ends = tt;
  starts = starts-first c.args.worker.now c.args.jobs.items (into_iter_items c.into_iter-job-iterator.result) c.new-handles.result.items c.into_iter-job-iterator.ensures.into_iter_gives.0 c.new-handles.ensures.items;
  taken = taken-first (g.W.Worker.Takes c.args.worker.now) c.args.jobs.items (into_iter_items c.into_iter-job-iterator.result) c.into_iter-job-iterator.ensures.into_iter_gives.0 c.requires;
}

pub loop-job-preserved : goal.loop-job-preserved
loop-job-preserved g c = record {
  can = tt;
  ends = tt;
  starts = starts-more c.args.worker.now c.args.jobs.items (into_iter_items c.loop-job.job-iterator) (into_iter_items c.next.new.self) c.loop-job.handles.items c.put.new.all.items c.in-Some.job c.in_ok-handle.handle c.in-Some.ensures.steps.0 c.in_ok-put.ensures.put c.in_ok-handle.ensures.job c.in_ok-handle.ensures.worker c.loop-job.invariant.starts;
  taken = (taken-next (g.W.Worker.Takes c.args.worker.now) (into_iter_items c.loop-job.job-iterator) (into_iter_items c.next.new.self) c.in-Some.job c.in-Some.ensures.steps.0 c.loop-job.invariant.taken).1;
}

pub start-requires-clause-takes : goal.start-requires-clause-takes
start-requires-clause-takes g c κs within = (taken-next (g.W.Worker.Takes c.args.worker.now) (into_iter_items c.loop-job.job-iterator) (into_iter_items c.next.new.self) c.in-Some.job c.in-Some.ensures.steps.0 c.loop-job.invariant.taken).0

pub returns : goal.returns
returns g c =
    let ended : into_iter_items c.loop-job.job-iterator ≡ [] = grind (arith, common_steps) in
    starts-all c.args.worker.now c.args.jobs.items (into_iter_items c.loop-job.job-iterator) c.loop-job.handles.items ended c.loop-job.invariant.starts
