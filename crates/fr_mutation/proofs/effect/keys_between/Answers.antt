use Rattle.std.proofs.Common.{◌≡◌, [], ◌++◌, ap, sym, ◌∙◌, append-nil}
use Rattle.std.specs.Map.{keys_of}
use Rattle.fr_mutation.proofs.ClearLemmas.{keys_of-between}
use Rattle.fr_mutation.proofs.Order.{not_gt_from_not_lt}
use Rattle.fr_mutation.proofs.effect.keys_between.Goals as goal

pub range-key-items-requires : goal.range-key-items-requires
range-key-items-requires c = not_gt_from_not_lt c.args.end.now c.args.begin.now c.requires

pub returns : goal.returns
returns c =
    let a = c.in-None.ensures.steps in
    let none : c.loop-key.key-iterator ≡ [] = c.in-None.ensures.steps.0 in
    let made = c.into_iter-key-iterator.ensures.into_iter_gives in
    let between = c.range-key-items.ensures.between tt in
    sym (append-nil c.loop-key.keys.items)
    ∙ sym (ap (λ l. c.loop-key.keys.items ++ keys_of l) none)
    ∙ c.loop-key.invariant
    ∙ ap keys_of (made ∙ between)
    ∙ keys_of-between c.args.begin.now c.args.end.now c.args.rows.now.entries
