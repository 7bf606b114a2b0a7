use Rattle.fr_state.proofs.LookUpLemmas.{last_is_there, last_is_within, last_or_next}
use Rattle.fr_state.proofs.laws.next_law.Goals as goal

pub returns : goal.returns
returns c = record { last = last_is_there; within = last_is_within; next = last_or_next }
