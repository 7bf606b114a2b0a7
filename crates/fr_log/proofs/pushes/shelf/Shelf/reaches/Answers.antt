use Rattle.std.proofs.Common.{◌∙◌, sym, subst}
use Rattle.std.proofs.lemmas.List.Elements.{recursion_from_All}
use Rattle.fr_log.specs.Pushes.{AreBelow}
use Rattle.fr_log.proofs.Shelves.{below_last}
use Rattle.fr_log.proofs.pushes.shelf.Shelf.reaches.Goals as goal

pub returns-in-Some-clause-no : goal.returns-in-Some-clause-no
returns-in-Some-clause-no c lost =
    subst (AreBelow c.args.version) c.self.view_is (below_last c.args.version c.in-Some.last.now c.self.inside.batches.entries (recursion_from_All _ _ c.in-Some.ensures.all_up_to) (sym c.le.ensures ∙ lost))
