use Rattle.fr_state.proofs.LookUpLemmas.{source_is, source_none}
use Rattle.fr_state.proofs.laws.source_law.Goals as goal

pub returns-clause-some : goal.returns-clause-some
returns-clause-some c = source_is

pub returns-clause-none : goal.returns-clause-none
returns-clause-none c = source_none
