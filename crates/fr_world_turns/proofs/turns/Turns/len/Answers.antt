use Rattle.std.proofs.Common.{length, ap, sym, ◌∙◌}
use Rattle.fr_world_turns.proofs.Histories.{length_history}
use Rattle.fr_world_turns.proofs.turns.Turns.len.Goals as goal

pub returns : goal.returns
returns c = ap length c.as_slice.ensures.value ∙ (sym (length_history c.self.inside.turns.items) ∙ ap (λ h. length h.turns) c.self.view_is)
