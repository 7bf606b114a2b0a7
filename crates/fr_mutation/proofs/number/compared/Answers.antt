use Rattle.std.proofs.Common.{◌-◌, ◌<◌, length, get_or, arith, sym, ap, ◌∙◌}
use Rattle.std.specs.declared.cmp.Ordering.TheVariants.{Equal}
use Rattle.std.specs.Ordering.{nat_cmp}
use Rattle.std.specs.Cmp.{nat_cmp_is}
use Rattle.fr_mutation.proofs.Digits.{same_number, number_order}
use Rattle.fr_mutation.proofs.number.compared.Goals as goal

pub returns-then-is_ne : goal.returns-then-is_ne
returns-then-is_ne c =
    let i = c.loop-i.i - 1 in
    let within : i < length c.args.param.now = omega arith in
    number_order c.args.old.now c.args.param.now i within
    (λ k. let fits = c.type_inv.old k in omega arith)
    (λ k. let fits = c.type_inv.param k in omega arith)
    (λ k from below. c.loop-i.invariant k (omega arith) below)
    c.cmp-order.result
    (c.cmp-order.ensures ∙ ap (λ b. nat_cmp b (get_or c.args.param.now i 0)) c.byte_at.ensures)
    (sym c.is_ne.ensures ∙ c.if-is_ne.true)

pub returns : goal.returns
returns c = nat_cmp_is _ _ Equal (same_number c.args.old.now c.args.param.now (λ k from below. c.loop-i.invariant k (omega arith) below))
