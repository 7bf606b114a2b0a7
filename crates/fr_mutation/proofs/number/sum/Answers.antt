use Rattle.std.proofs.Common.{◌<◌, length, arith, append_assoc, ◌∙◌}
use Rattle.std.proofs.lemmas.Grind.{common_steps}
use Rattle.fr_mutation.proofs.Digits.{sum_more, sum_done}
use Rattle.fr_mutation.proofs.number.sum.Goals as goal

pub loop-i-preserved : goal.loop-i-preserved
loop-i-preserved c =
    let lt : c.loop-i.i < length c.args.param.now = omega arith in
    let step = sum_more c.args.old.now c.args.param.now c.loop-i.i c.loop-i.carry lt in
    record { so_far = grind (arith, append_assoc, step, common_steps); carry = omega arith }

pub returns : goal.returns
returns c = sum_done _ _ _ (omega arith) ∙ c.loop-i.invariant.so_far
