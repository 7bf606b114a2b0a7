use Rattle.std.proofs.Common.{◌∙◌, ap}
use Rattle.fr_log.specs.LogState.{mark_among}
use Rattle.fr_log.proofs.Held.{held_mark}
use Rattle.fr_log.proofs.pushes.Pushes.mark.Goals as goal

pub returns : goal.returns
returns c = c.mark.ensures ∙ held_mark c.self.inside.shelves.items c.self.inside.headers ∙ ap mark_among c.self.view_is
