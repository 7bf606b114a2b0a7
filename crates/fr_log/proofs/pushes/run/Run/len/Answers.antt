use Rattle.std.proofs.Common.{length, sym, ◌∙◌, ap}
use Rattle.fr_log.proofs.Runs.{evenly_length}
use Rattle.fr_log.proofs.pushes.run.Run.len.Goals as goal

pub returns : goal.returns
returns c = sym (evenly_length c.self.inside.first c.self.inside.step c.self.inside.more) ∙ ap length c.self.view_is
