use Rattle.fr_state.proofs.OrderLemmas.{last_of-slice_get}
use Rattle.fr_state.proofs.state.CoordState.last.Goals as goal

pub returns-clause-value : goal.returns-clause-value
returns-clause-value c = rw (← c.self.view_is, last_of-slice_get) (cc (c.in-Some.ensures.value, c.deref.ensures.value))
