use Rattle.std.proofs.Common.{rules}
use Rattle.fr_runtime.proofs.Ordered.{gave-next}
use Rattle.fr_runtime.proofs.orders.OrdersWorkload.next.Goals as goal

pub invariant_of-self-2-clause-gave : goal.invariant_of-self-2-clause-gave
invariant_of-self-2-clause-gave c =
    gave-next c.args.self.now.number c.args.self.now.shards c.args.self.now.next c.in-Some.step c.in_ok-copy.field-0 c.args.self.now.given.items c.push_reserved.new.self.items
    (search rules) c.in-Some.ensures.value (search rules) (search rules)
