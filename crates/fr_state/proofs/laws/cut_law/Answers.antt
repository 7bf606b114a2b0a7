use Rattle.fr_state.proofs.LookUpLemmas.{next_tells, last_is_open, earlier_is_closed, absent_is_open, cut_is_at_least_seed, end_is_at_most_cut, cut_is_at_most_last}
use Rattle.fr_state.proofs.laws.cut_law.Goals as goal

pub returns-clause-next : goal.returns-clause-next
returns-clause-next c = next_tells

pub returns-clause-last : goal.returns-clause-last
returns-clause-last c = last_is_open

pub returns-clause-earlier : goal.returns-clause-earlier
returns-clause-earlier c = earlier_is_closed

pub returns-clause-absent : goal.returns-clause-absent
returns-clause-absent c = absent_is_open

pub returns-clause-above_seed : goal.returns-clause-above_seed
returns-clause-above_seed c = cut_is_at_least_seed

pub returns-clause-above_end : goal.returns-clause-above_end
returns-clause-above_end c = end_is_at_most_cut

pub returns-clause-below_last : goal.returns-clause-below_last
returns-clause-below_last c = cut_is_at_most_last
