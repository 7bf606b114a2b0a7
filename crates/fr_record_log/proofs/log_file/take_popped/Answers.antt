use Rattle.std.proofs.Common.{cond, sym, ◌∙◌, ap, subst, arith}
use Rattle.fr_log.specs.Step.{with_popped}
use Rattle.fr_record_log.specs.Limits.{IsWithinLog}
use Rattle.fr_record_log.proofs.Settling.{settled_by, within_popped}
use Rattle.fr_record_log.proofs.log_file.take_popped.Goals as goal

pub returns-in-Ok-true-clause-settled : goal.returns-in-Ok-true-clause-settled
returns-in-Ok-true-clause-settled c =
    let l = c.args.log.now in
    let p = c.args.popped in
    let same = c.get-within.ensures.value in
    let below = c.get-within.ensures.within in
    let within = within_popped l p.tag p.version (omega (arith, same, below)) c.requires.within in
    let at = c.in-Ok-true.ensures.after ∙ ap (λ b. cond b (with_popped l p.tag p.version) l) c.in-Ok-true.field-0-test in
    settled_by c.letting_law.ensures.twice c.take_popped.new.self c.settle.new.self c.log_within_limits-in-Ok-true.ensures (subst IsWithinLog (sym at) within) c.settle.ensures.after
