use Rattle.fr_tags.proofs.PlacementLemmas.{holders_pushed}
use Rattle.fr_tags.proofs.placement.holders.Goals as goal

pub loop-i-preserved : goal.loop-i-preserved
loop-i-preserved c =
    holders_pushed c.args.tag c.args.m c.loop-i.i c.get.result _ _ c.loop-i.invariant c.get.ensures.value c.in_ok-push.ensures.items
