use Rattle.std.proofs.Common.{◌∙◌, ap, sym, subst, length}
use Rattle.fr_log.specs.Pushes.{cut}
use Rattle.fr_log.proofs.Shelves.{cut_none, cut_shrinks, shrinks}
use Rattle.fr_log.proofs.pushes.shelf.Shelf.cut_from.Goals as goal

pub loop-version-smaller : goal.loop-version-smaller
loop-version-smaller c =
    let some = c.pop_last.ensures.variant.1 (subst (λ es. Rattle.std.proofs.Common.◌<◌ 0 (length es)) (sym c.self.view_is) (c.reaches.ensures.some c.loop-version-test.true)) in
    shrinks _ _ _ some (c.pop_last.ensures.len ∙ ap length c.self.view_is)

pub loop-version-preserved : goal.loop-version-preserved
loop-version-preserved c =
    let some = c.pop_last.ensures.variant.1 (subst (λ es. Rattle.std.proofs.Common.◌<◌ 0 (length es)) (sym c.self.view_is) (c.reaches.ensures.some c.loop-version-test.true)) in
    cut_shrinks c.args.version c.self.inside.batches.entries c.pop_last.new.self.entries c.pop_last.result some c.pop_last.ensures.removal
    (λ es e is. c.reaches.ensures.yes c.loop-version-test.true es e (sym c.self.view_is ∙ is))
    ∙ ap (cut c.args.version) c.self.view_is ∙ c.loop-version.invariant

pub returns : goal.returns
returns c = sym (cut_none c.args.version c.loop-version.self (c.reaches.ensures.no c.loop-version-test.false)) ∙ c.loop-version.invariant
