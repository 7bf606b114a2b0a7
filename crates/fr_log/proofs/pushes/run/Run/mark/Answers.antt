use Rattle.std.proofs.Common.{sym, ◌∙◌, ap}
use Rattle.fr_log.specs.Headers.{first_mark}
use Rattle.fr_log.proofs.Runs.{evenly_mark}
use Rattle.fr_log.proofs.pushes.run.Run.mark.Goals as goal

pub returns : goal.returns
returns c = c.as_ref.ensures.value ∙ sym (evenly_mark c.self.inside.first c.self.inside.step c.self.inside.more) ∙ ap first_mark c.self.view_is
