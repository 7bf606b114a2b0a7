use Rattle.std.proofs.Common.{◌≡◌, ◌∙◌, refl, rules}
use borrow.Author.Tests.{tests}
use Rattle.std.specs.List.{range_with_len}
use Rattle.std.proofs.lemmas.Iterator.{YieldsList-from_range}
use Rattle.std.proofs.lemmas.Iterator.Consumers.{YieldsList-from_filter, YieldsList-at, count_from_yields_List}
use Rattle.std.proofs.lemmas.List.Sums.{length-filter}
use Rattle.fr_tags.specs.Placement as placement
use Rattle.fr_tags.proofs.placement.covers.Goals as goal

pub returns : goal.returns
returns c =
    let counted : c.count-count.result ≡ placement.log_count c.args.m c.args.logs.now =
    count_from_yields_List c.filter.result _ c.count-count.ensures.ran (YieldsList-from_filter _ (placement.is_among c.args.logs.now) (YieldsList-at c.filter.ensures.source (YieldsList-from_range 0 c.args.m c.args.m refl (search rules))) c.filter.ensures.closure (λ x b q k. search (rules, tests)))
    ∙ length-filter (placement.is_among c.args.logs.now) (range_with_len 0 c.args.m) in
    rw (counted, c.from.ensures) refl
