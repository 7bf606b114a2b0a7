use Rattle.std.proofs.Common.{◌+◌, ◌-◌, ℕ, arith, ◌∙◌}
use Rattle.fr_base.proofs.OrderLemmas.{word_apart, word_alike, by_lengths, shorter}
use Rattle.fr_base.proofs.order.order.Goals as goal

pub returns-then-x-y : goal.returns-then-x-y
returns-then-x-y c =
    c.cmp.ensures
    ∙ word_apart c.args.a.now c.args.b.now c.type_inv.a c.type_inv.b c.loop-at.at 8 (omega arith) (omega arith) c.word-x.ensures c.word-y.ensures c.loop-at.invariant c.if-x-y.true

pub loop-at-preserved : goal.loop-at-preserved
loop-at-preserved c =
    word_alike c.args.a.now c.args.b.now c.type_inv.a c.type_inv.b c.loop-at.at 8 (omega arith) (omega arith) c.word-x.ensures c.word-y.ensures c.loop-at.invariant c.if-x-y.false

pub returns-then-x-y-2 : goal.returns-then-x-y-2
returns-then-x-y-2 c =
    let xs = c.args.a.now in
    let ys = c.args.b.now in
    let last : ℕ = c.min-both.result - 8 in
    c.cmp-then-x-y-2.ensures
    ∙ word_apart xs ys c.type_inv.a c.type_inv.b last 8 (omega arith) (omega arith) c.word-x-2.ensures c.word-y-2.ensures
    (shorter last c.loop-at.at xs ys (omega arith) c.loop-at.invariant) c.if-x-y-2.true

pub returns : goal.returns
returns c =
    let xs = c.args.a.now in
    let ys = c.args.b.now in
    let last : ℕ = c.min-both.result - 8 in
    let all = word_alike xs ys c.type_inv.a c.type_inv.b last 8 (omega arith) (omega arith) c.word-x-2.ensures c.word-y-2.ensures
    (shorter last c.loop-at.at xs ys (omega arith) c.loop-at.invariant) c.if-x-y-2.false in
    c.cmp-2.ensures ∙ by_lengths (last + 8) xs ys (omega arith) all
