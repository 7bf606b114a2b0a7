use Rattle.fr_state.proofs.DropLemmas.{drop_is_state, dropped_is_without, dropped_begins_there, drop_keeps_last, drop_keeps_order}
use Rattle.fr_state.proofs.laws.drop_law.Goals as goal

pub returns-clause-state : goal.returns-clause-state
returns-clause-state c = drop_is_state

pub returns-clause-without : goal.returns-clause-without
returns-clause-without c = dropped_is_without

pub returns-clause-begins : goal.returns-clause-begins
returns-clause-begins c = dropped_begins_there

pub returns-clause-last : goal.returns-clause-last
returns-clause-last c = drop_keeps_last

pub returns-clause-order : goal.returns-clause-order
returns-clause-order c = drop_keeps_order
