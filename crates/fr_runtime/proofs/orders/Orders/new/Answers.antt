use Rattle.fr_runtime.proofs.Ordered.{gave-first}
use Rattle.fr_runtime.proofs.orders.Orders.new.Goals as goal

pub invariant_of-result-clause-gave : goal.invariant_of-result-clause-gave
invariant_of-result-clause-gave c = gave-first _ _ _ c.new.ensures.items
