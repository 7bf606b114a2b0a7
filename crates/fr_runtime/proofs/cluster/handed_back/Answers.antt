use Rattle.fr_runtime.proofs.Heards.{begun-run, heard-run}
use Rattle.fr_runtime.proofs.cluster.handed_back.Goals as goal

pub returns-clause-heard : goal.returns-clause-heard
returns-clause-heard g c =
    let all = c.in_ok-new.ensures in
    heard-run g.W.Workload.given g.W.Workload.heard (g.F.Faults.begun c.args.faults.now) c.args.turns c.args.workloads.items c.args.ballots.now c.in_ok-stores.stores.items c.in_ok-done.done.items c.in_ok-journals.journals.items _ _ _
    c.in_ok-journals.ensures.answers all.journals all.works all.told c.in_ok-done.ensures

pub returns-clause-begun : goal.returns-clause-begun
returns-clause-begun g c =
    let all = c.in_ok-new.ensures in
    begun-run g.W.Workload.given g.W.Workload.heard (g.F.Faults.begun c.args.faults.now) c.args.turns c.args.workloads.items c.args.ballots.now c.in_ok-stores.stores.items c.in_ok-done.done.items c.in_ok-journals.journals.items _
    all.journals c.in_ok-done.ensures
