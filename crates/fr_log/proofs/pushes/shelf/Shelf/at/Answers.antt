use Rattle.std.proofs.Common.{◌∙◌, ap}
use Rattle.fr_log.specs.Pushes.{batch_at}
use Rattle.fr_log.proofs.Shelves.{found_is}
use Rattle.fr_log.proofs.pushes.shelf.Shelf.at.Goals as goal

pub returns : goal.returns
returns c = c.get.ensures.value ∙ found_is c.args.version _ ∙ ap (batch_at c.args.version) c.self.view_is
