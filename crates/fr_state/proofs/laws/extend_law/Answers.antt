use Rattle.fr_state.proofs.ExtendLemmas.{extension_is_state, follower_extends, not_later_is_exact, too_many_is_exact}
use Rattle.fr_state.proofs.laws.extend_law.Goals as goal

pub returns-clause-state : goal.returns-clause-state
returns-clause-state c = extension_is_state

pub returns-clause-follower : goal.returns-clause-follower
returns-clause-follower c = follower_extends

pub returns-clause-not_later : goal.returns-clause-not_later
returns-clause-not_later c = not_later_is_exact

pub returns-clause-too_many : goal.returns-clause-too_many
returns-clause-too_many c = too_many_is_exact
