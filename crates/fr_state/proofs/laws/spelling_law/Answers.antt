use Rattle.fr_state.proofs.SpellingLemmas.{reading_again, reading_one, no_prefix, spelling_fits, one_spelling_one_state}
use Rattle.fr_state.proofs.laws.spelling_law.Goals as goal

pub returns-clause-again : goal.returns-clause-again
returns-clause-again c = reading_again

pub returns-clause-one : goal.returns-clause-one
returns-clause-one c = reading_one

pub returns-clause-no_prefix : goal.returns-clause-no_prefix
returns-clause-no_prefix c = no_prefix

pub returns-clause-size : goal.returns-clause-size
returns-clause-size c = spelling_fits

pub returns-clause-same : goal.returns-clause-same
returns-clause-same c = one_spelling_one_state
