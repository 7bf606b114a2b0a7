use Rattle.std.proofs.Common.{◌∙◌, sym, subst}
use Rattle.std.proofs.lemmas.List.Elements.{recursion_from_All}
use Rattle.fr_log.specs.Pushes.{AreAbove}
use Rattle.fr_log.proofs.Shelves.{above_first}
use Rattle.fr_log.proofs.pushes.shelf.Shelf.starts_by.Goals as goal

pub returns-in-Some-clause-no : goal.returns-in-Some-clause-no
returns-in-Some-clause-no c lost =
    subst (AreAbove c.args.version) c.self.view_is (above_first c.args.version c.in-Some.first.now c.self.inside.batches.entries (recursion_from_All _ _ c.in-Some.ensures.all_from) (sym c.le.ensures ∙ lost))
