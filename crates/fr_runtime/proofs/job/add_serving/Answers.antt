use Rattle.std.proofs.Common.{arith, refl, ap, ◌≡◌, ◌++◌, ◌∷◌, [], ◌+◌}
use Rattle.std.proofs.lemmas.Grind.{common_steps}
use Rattle.std.specs.Vec.Iter.{into_iter_items}
use Rattle.fr_runtime.specs.declared.job.Job.TheVariants.{Serve}
use Rattle.fr_runtime.specs.Job.{serve_jobs}
use Rattle.fr_runtime.proofs.Gathers.{put-all, put-more, serve-step}
use Rattle.fr_runtime.proofs.job.add_serving.Goals as goal

pub loop-work-init : goal.loop-work-init
loop-work-init g c =
    let items = c.into_iter-work-iterator.ensures.into_iter_gives in
    record {
      can = tt;
      ends = tt;
      jobs = ap (λ (l : _). c.args.all.now.items ++ serve_jobs 0 l) items.0;
      count = omega (arith, items.1);
    }

pub loop-work-preserved : goal.loop-work-preserved
loop-work-preserved g c =
    let step = c.in-Some.ensures.steps in
    let inv = c.loop-work.invariant in
    let n = c.loop-work.number in
    record {
      can = tt;
      ends = tt;
      jobs = put-more (serve_jobs n) (serve_jobs (n + 1)) c.loop-work.all.items c.put.new.all.items (Serve n c.in-Some.work ∷ []) _ c.in-Some.work _ (into_iter_items c.next.new.self) c.in_ok-put.ensures step.0 (serve-step n (n + 1) c.in-Some.work (into_iter_items c.next.new.self) refl) inv.jobs;
      count = omega (arith, step.1, inv.count);
    }

pub returns : goal.returns
returns g c =
    let ended : into_iter_items c.loop-work.work-iterator ≡ [] = grind (arith, common_steps) in
    put-all (serve_jobs c.loop-work.number) c.loop-work.all.items _ _ ended refl c.loop-work.invariant.jobs
