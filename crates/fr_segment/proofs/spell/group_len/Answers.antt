use Rattle.std.proofs.Common.{rules, ◌≡◌, length, ap, arith}
use Rattle.fr_segment.proofs.GroupLemmas.{long_more}
use Rattle.fr_segment.proofs.spell.group_len.Goals as goal

pub loop-payload-preserved : goal.loop-payload-preserved
loop-payload-preserved c =
    let more = long_more c.args.group.now c.loop-payload.payload-index c.payload-item.result c.loop-payload-test.true in
    let item = ap (λ v. length v.items) c.payload-item.is in
    let n : c.len.result ≡ length c.payload-item.result.items = search rules in
    record { len = omega (arith, more, item, n, c.loop-payload.invariant.len) }
