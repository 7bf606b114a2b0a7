use Rattle.fr_state.proofs.LookUpLemmas.{owner_is, owner_none}
use Rattle.fr_state.proofs.laws.owner_law.Goals as goal

pub returns-clause-some : goal.returns-clause-some
returns-clause-some c = owner_is

pub returns-clause-none : goal.returns-clause-none
returns-clause-none c = owner_none
