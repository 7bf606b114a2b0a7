use Rattle.fr_tail.proofs.Refused.{not_responder_is_first, hole_is_above, short_is_empty}
use Rattle.fr_tail.proofs.laws.refusal_law.Goals as goal

pub returns : goal.returns
returns c = record { not_responder = not_responder_is_first; hole = hole_is_above; short = short_is_empty }
