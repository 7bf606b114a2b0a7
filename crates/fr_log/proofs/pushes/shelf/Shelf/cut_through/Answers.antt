use Rattle.std.proofs.Common.{◌∙◌, ap, sym, subst, length}
use Rattle.fr_log.specs.Pushes.{above}
use Rattle.fr_log.proofs.Shelves.{above_all, above_shrinks, shrinks}
use Rattle.fr_log.proofs.pushes.shelf.Shelf.cut_through.Goals as goal

pub loop-version-smaller : goal.loop-version-smaller
loop-version-smaller c =
    let some = c.pop_first.ensures.variant.1 (subst (λ es. Rattle.std.proofs.Common.◌<◌ 0 (length es)) (sym c.self.view_is) (c.starts_by.ensures.some c.loop-version-test.true)) in
    shrinks _ _ _ some (c.pop_first.ensures.len ∙ ap length c.self.view_is)

pub loop-version-preserved : goal.loop-version-preserved
loop-version-preserved c =
    let some = c.pop_first.ensures.variant.1 (subst (λ es. Rattle.std.proofs.Common.◌<◌ 0 (length es)) (sym c.self.view_is) (c.starts_by.ensures.some c.loop-version-test.true)) in
    above_shrinks c.args.version c.self.inside.batches.entries c.pop_first.new.self.entries c.pop_first.result some c.pop_first.ensures.removal
    (λ e es is. c.starts_by.ensures.yes c.loop-version-test.true e es (sym c.self.view_is ∙ is))
    ∙ ap (above c.args.version) c.self.view_is ∙ c.loop-version.invariant

pub returns : goal.returns
returns c = sym (above_all c.args.version c.loop-version.self (c.starts_by.ensures.no c.loop-version-test.false)) ∙ c.loop-version.invariant
