use Rattle.std.proofs.Common.{subst, ◌≡◌}
use Rattle.std.specs.Prelude.{IfOk}
use Rattle.fr_runtime.specs.Sworn.{AllDone}
use Rattle.fr_runtime.specs.Job.{AllDid, Did, oks}
use Rattle.fr_runtime.proofs.Heards.{all-did}
use Rattle.fr_runtime.proofs.job.run_threads.Goals as goal

pub returns : goal.returns
returns g c =
    let given = g.W.Workload.given in
    let heard = g.W.Workload.heard in
    let begun = g.F.Faults.begun c.args.site.now.faults.now in
    let turns = c.args.turns in
    let js = c.in_ok-jobs.jobs.items in
    let ds = c.in_ok-done.done.items in
    let all : c.in_ok-threads.threads.items ≡ oks ds = c.in_ok-done.ensures in
    let did = subst (λ (rs : _). AllDone (λ j r. IfOk r (Did given heard begun turns j)) js rs) all c.in_ok-threads.ensures in
    subst (λ (l : _). AllDid given heard begun turns l ds) c.in_ok-jobs.ensures (all-did given heard begun turns _ js ds did)
