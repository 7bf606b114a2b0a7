use Rattle.fr_state.proofs.SameLemmas.{begins_is_exact}
use Rattle.fr_state.proofs.LookUpLemmas.{front_keeps_end, front_keeps_cut, front_keeps_source, front_keeps_owner}
use Rattle.fr_state.proofs.laws.front_law.Goals as goal

pub returns-clause-end : goal.returns-clause-end
returns-clause-end c = front_keeps_end

pub returns-clause-cut : goal.returns-clause-cut
returns-clause-cut c = front_keeps_cut

pub returns-clause-source : goal.returns-clause-source
returns-clause-source c = front_keeps_source

pub returns-clause-owner : goal.returns-clause-owner
returns-clause-owner c = front_keeps_owner

pub returns-clause-exact : goal.returns-clause-exact
returns-clause-exact c = begins_is_exact
