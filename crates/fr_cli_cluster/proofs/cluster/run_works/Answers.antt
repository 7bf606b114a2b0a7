use Rattle.std.proofs.Common.{rules, subst}
use Rattle.fr_runtime.specs.Fault.{IsExplained}
use Rattle.fr_runtime.specs.declared.fault.RunFault.{RunFault}
use Rattle.fr_cli_cluster.proofs.Bad.{bad-of}
use Rattle.fr_cli_cluster.proofs.cluster.run_works.Goals as goal

-- what the run says of its fault is of the one that is handed on
pub returns-clause-fault : goal.returns-clause-fault
returns-clause-fault g c =
    let config = c.in_ok-config.config in
    let ballots = c.as_slice.result.now in
    let told = c.in_ok-audit_fault-in-Err.ensures in
    let h = subst (λ (fault : RunFault). IsExplained g.W.Workload.given g.W.Workload.heard (g.F.Faults.begun c.args.faults.now) c.args.words.now.turns config c.args.works.items ballots fault) told.0 c.in-Err.ensures.fault told.1 in
    bad-of (g.F.Faults.begun c.args.faults.now) c.args.words.now c.args.shapes.now config ballots h.journals _ h.found h.have_begun (search rules) (search rules)
