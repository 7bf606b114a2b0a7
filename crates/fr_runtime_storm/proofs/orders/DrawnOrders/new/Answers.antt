use Rattle.fr_runtime_storm.proofs.Gives.{gave_first, stands_first}
use Rattle.fr_runtime_storm.proofs.orders.DrawnOrders.new.Goals as goal

pub invariant_of-result-clause-stands : goal.invariant_of-result-clause-stands
invariant_of-result-clause-stands c = stands_first _ _ _ c.new.ensures.items c.seed_from_u64.ensures

pub invariant_of-result-clause-gave : goal.invariant_of-result-clause-gave
invariant_of-result-clause-gave c = gave_first _ _ _ c.new.ensures.items
