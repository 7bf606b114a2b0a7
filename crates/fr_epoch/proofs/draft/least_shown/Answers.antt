use Rattle.std.proofs.Common.{◌+◌, ◌-◌, Some, sym, ap, ◌∙◌}
use Rattle.std.specs.List.{range_with_len}
use Rattle.fr_epoch.specs.Dropping.{least_with, least_shown}
use Rattle.fr_epoch.proofs.Droppings.{least_next}
use Rattle.fr_epoch.proofs.draft.least_shown.Goals as goal

pub loop-tag-preserved : goal.loop-tag-preserved
loop-tag-preserved c =
    let shown = c.args.shown.now in
    let tags = c.args.tags in
    let tag = c.loop-tag.tag in
    ap (λ v. least_with shown (Some v) (range_with_len (tag + 1) (tags - (tag + 1)))) c.lesser.ensures
    ∙ least_next shown c.loop-tag.least tag tags c.in-Some.version (least_shown shown (range_with_len 0 tags)) c.loop-tag-test.true (sym c.shown_of.ensures ∙ c.in-Some.is) c.loop-tag.invariant
