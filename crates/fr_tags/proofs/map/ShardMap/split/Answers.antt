use Rattle.std.proofs.Common.{◌≡◌, ◌∙◌, ap, ap₂, rules}
use Rattle.fr_tags.specs.Split.{bodies_for}
use Rattle.fr_tags.proofs.SplitLemmas.{log_pushed}
use Rattle.fr_tags.proofs.map.ShardMap.split.Goals as goal

pub loop-log-preserved : goal.loop-log-preserved
loop-log-preserved c =
    let m : c.in-Some.shape.m ≡ c.args.m = search rules in
    let k : c.in-Some.shape.k ≡ c.args.k = search rules in
    log_pushed (λ log. log.items) (bodies_for c.in_ok-bodies.bodies.items c.args.m c.args.k) _ _ _ c.loop-log.log c.loop-log.invariant
    (c.in_ok-bodies_for.ensures ∙ ap₂ (λ m k. bodies_for c.as_slice.result.now m k c.loop-log.log) m k ∙ ap (λ all. bodies_for all c.args.m c.args.k c.loop-log.log) c.as_slice.ensures.value)
    c.in_ok-push.ensures.items
