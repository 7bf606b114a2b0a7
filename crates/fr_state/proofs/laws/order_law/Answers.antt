use Rattle.fr_state.proofs.ListLemmas.{pairs_from_order, order_from_pairs}
use Rattle.fr_state.proofs.laws.order_law.Goals as goal

pub returns : goal.returns
returns c = λ gens. (pairs_from_order gens, order_from_pairs gens)
