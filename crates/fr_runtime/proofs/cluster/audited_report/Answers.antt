use Rattle.fr_runtime.proofs.Took.{turns-have}
use Rattle.fr_runtime.proofs.cluster.audited_report.Goals as goal

pub returns-in-Ok-clause-run : goal.returns-in-Ok-clause-run
returns-in-Ok-clause-run c =
    let turns = rw c.as_slice-all.ensures.value at c.in-Ok.ensures.turns in
    c.audit_law.ensures.run c.args.config c.args.journals.items c.in-Ok.world.turns turns

pub returns-in-Ok-clause-handed : goal.returns-in-Ok-clause-handed
returns-in-Ok-clause-handed c =
    let turns = rw c.as_slice-all.ensures.value at c.in-Ok.ensures.turns in
    let start = rw c.as_slice-all.ensures.value at c.in_default.ensures.start in
    let each = rw c.as_slice-all.ensures.value at c.in_default.ensures.each in
    let run = c.audit_law.ensures.run c.args.config c.args.journals.items c.in-Ok.world.turns turns in
    record {
      start = start;
      others = turns-have c.merge_law.ensures.all c.args.config c.args.journals.items c.in-Ok.world.turns run.happen;
      each = each;
    }
