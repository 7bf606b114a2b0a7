use Rattle.std.proofs.Common.{◌-◌, length, sym, ◌∙◌, ap, arith}
use Rattle.std.specs.List.{range_with_len}
use Rattle.fr_tags.specs.Shards.{meets, shard_at}
use Rattle.fr_tags.proofs.TouchedLemmas.{filter_range, range_pushed}
use Rattle.fr_tags.proofs.map.ShardMap.tags_of.Goals as goal

pub loop-number-preserved : goal.loop-number-preserved
loop-number-preserved c =
    range_pushed c.touched-touched.result.start c.loop-number.number c.tag_at.result _ _ c.loop-number.auto.number c.loop-number.invariant c.tag_at.ensures c.in_ok-push.ensures.items

pub returns : goal.returns
returns c =
    let order = c.touched-touched.ensures.order in
    c.loop-number.invariant
    ∙ ap (λ n. range_with_len c.touched-touched.result.start (n - c.touched-touched.result.start)) (omega arith)
    ∙ sym (filter_range (λ t. meets c.args.mutation.now (shard_at c.args.self.now t)) (length c.args.self.now) c.touched-touched.result.start c.touched-touched.result.end order c.touched-touched.ensures.within c.touched-touched.ensures.each)
