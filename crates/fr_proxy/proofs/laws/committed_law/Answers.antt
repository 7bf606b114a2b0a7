use Rattle.fr_proxy.proofs.CommittedLaw.{committed_exactly, other_held_counts_nothing, known_is_last_committed}
use Rattle.fr_proxy.proofs.laws.committed_law.Goals as goal

pub returns : goal.returns
returns c = record { exactly = committed_exactly; others = other_held_counts_nothing; known = known_is_last_committed }
