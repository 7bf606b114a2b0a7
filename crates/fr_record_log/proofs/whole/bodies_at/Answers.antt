use Rattle.std.proofs.Common.{◌≡◌, ◌++◌, sym, ◌∙◌, ap, arith}
use Rattle.fr_log.specs.Pushes.{batch_at, pushed_batches}
use Rattle.fr_record_log.specs.Spelled.{tagged, body_of}
use Rattle.fr_record_log.proofs.Tagged.{tagged_more, tagged_none}
use Rattle.fr_record_log.proofs.whole.bodies_at.Goals as goal

pub loop-number-init : goal.loop-number-init
loop-number-init c = c.new-bodies.ensures.items ∙ sym (tagged_none c.args.version c.args.log.now.pushes)

pub loop-number-preserved : goal.loop-number-preserved
loop-number-preserved c =
    let n = c.loop-number.number in
    let v = c.args.version in
    let ps = c.args.log.now.pushes in
    c.in_ok-put_body_of.ensures ∙ ap (λ bs. bs ++ body_of n (batch_at v (pushed_batches n ps))) c.loop-number.invariant ∙ sym (tagged_more n v ps)

pub returns : goal.returns
returns c =
    let past = c.loop-number-test.false in
    let within = c.loop-number.auto.number-end in
    let all : c.loop-number.number ≡ 32 = omega (arith, past, within) in
    c.loop-number.invariant ∙ ap (λ k. tagged k c.args.version c.args.log.now.pushes) all
