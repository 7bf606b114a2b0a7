use Rattle.std.proofs.Common.{◌∙◌, ap, sym, length}
use Rattle.fr_log.proofs.Held.{held_length}
use Rattle.fr_log.proofs.pushes.Pushes.len.Goals as goal

pub returns : goal.returns
returns c = c.len.ensures ∙ sym (held_length c.self.inside.shelves.items c.self.inside.headers) ∙ ap length c.self.view_is
