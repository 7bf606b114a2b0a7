use Rattle.std.proofs.Common.{◌<◌, length, arith, append_assoc, ◌∙◌}
use Rattle.std.proofs.lemmas.Grind.{common_steps}
use Rattle.fr_mutation.specs.Values.{byte_of}
use Rattle.fr_mutation.proofs.Digits.{bytewise_more, bytewise_done}
use Rattle.fr_mutation.proofs.bitwise.Bitwise.bytes.Goals as goal

pub loop-i-preserved : goal.loop-i-preserved
loop-i-preserved c =
    let lt : c.loop-i.i < length c.args.param.now = omega arith in
    let step = bytewise_more (byte_of c.args.self) c.args.old.now c.args.param.now c.loop-i.i lt in
    grind (arith, append_assoc, step, common_steps)

pub returns : goal.returns
returns c = bytewise_done _ _ _ _ _ (omega arith) ∙ c.loop-i.invariant
