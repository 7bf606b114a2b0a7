use Rattle.std.proofs.Common.{◌∙◌, ◌+◌, ◌%◌, ◌==◌, sym, refl, rules}
use borrow.Author.Tests.{tests}
use Rattle.std.specs.List.{range_with_len}
use Rattle.std.proofs.lemmas.Iterator.{YieldsList-from_range}
use Rattle.std.proofs.lemmas.Iterator.Search.{any_from_yields_List}
use Rattle.fr_tags.proofs.PlacementLemmas.{list_any-map}
use Rattle.fr_tags.proofs.placement.is_held.Goals as goal

pub returns : goal.returns
returns c =
    any_from_yields_List (λ i. (c.args.tag + i) % c.args.m == c.args.log) _ _ c.any.result c.any.ensures.ran (YieldsList-from_range 0 c.args.k c.args.k refl (search rules)) (λ x b q k. search (rules, tests))
    ∙ sym (list_any-map (λ other. other == c.args.log) (λ i. (c.args.tag + i) % c.args.m) (range_with_len 0 c.args.k))
