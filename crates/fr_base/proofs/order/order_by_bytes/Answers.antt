use Rattle.std.proofs.Common.{arith, ◌∙◌}
use Rattle.fr_base.proofs.OrderLemmas.{word_apart, word_alike, one_byte, by_lengths}
use Rattle.fr_base.proofs.order.order_by_bytes.Goals as goal

pub returns-then-x-y : goal.returns-then-x-y
returns-then-x-y c =
    let xs = c.args.a.now in
    let ys = c.args.b.now in
    let i = c.loop-at.at in
    c.cmp.ensures
    ∙ word_apart xs ys c.type_inv.a c.type_inv.b i 1 (omega arith) (omega arith) (one_byte xs i (omega arith)) (one_byte ys i (omega arith)) c.loop-at.invariant c.if-x-y.true

pub loop-at-preserved : goal.loop-at-preserved
loop-at-preserved c =
    let xs = c.args.a.now in
    let ys = c.args.b.now in
    let i = c.loop-at.at in
    word_alike xs ys c.type_inv.a c.type_inv.b i 1 (omega arith) (omega arith) (one_byte xs i (omega arith)) (one_byte ys i (omega arith)) c.loop-at.invariant c.if-x-y.false

pub returns : goal.returns
returns c = c.cmp-2.ensures ∙ by_lengths c.loop-at.at c.args.a.now c.args.b.now (omega arith) c.loop-at.invariant
