use Rattle.std.proofs.Common.{sym, ◌∙◌, ap}
use Rattle.fr_log.specs.Headers.{begins}
use Rattle.fr_log.proofs.Runs.{evenly_begins}
use Rattle.fr_log.proofs.pushes.run.Run.version.Goals as goal

pub returns : goal.returns
returns c = sym (evenly_begins c.self.inside.first c.self.inside.step c.self.inside.more) ∙ ap begins c.self.view_is
