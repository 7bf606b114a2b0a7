use Rattle.fr_state.proofs.DropLemmas.{goes_on_is_exact, extension_goes_on}
use Rattle.fr_state.proofs.laws.going_law.Goals as goal

pub returns-clause-exact : goal.returns-clause-exact
returns-clause-exact c = goes_on_is_exact

pub returns-clause-extension : goal.returns-clause-extension
returns-clause-extension c = extension_goes_on
