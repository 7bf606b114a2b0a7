use Rattle.fr_state.proofs.SameLemmas.{same_state, is_same_itself}
use Rattle.fr_state.proofs.laws.equal_law.Goals as goal

pub returns : goal.returns
returns c = λ s t. (same_state s t, is_same_itself s t)
