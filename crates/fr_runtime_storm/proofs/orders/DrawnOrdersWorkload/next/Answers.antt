use Rattle.std.proofs.Common.{rules}
use Rattle.fr_runtime_storm.proofs.Gives.{cloned, gave_next, stands_next}
use Rattle.fr_runtime_storm.proofs.orders.DrawnOrdersWorkload.next.Goals as goal

pub invariant_of-self-2-clause-stands : goal.invariant_of-self-2-clause-stands
invariant_of-self-2-clause-stands c =
    let h = c.in_ok-rng.ensures.cases in
    stands_next c.args.self.now.given.items _ (record { step = c.in-Some.step; batch = c.in_ok-copy.field-0 }) c.args.self.now.rng c.in_ok-rng.rng c.next_word-word.new.self _ _
    c.next_word-word.result c.next_word-operand.result (cloned h.2 h.3 h.4.0 h.4.1) c.next_word-word.ensures c.next_word-operand.ensures (search rules) (search rules)

pub invariant_of-self-2-clause-gave : goal.invariant_of-self-2-clause-gave
invariant_of-self-2-clause-gave c =
    let h = c.in_ok-rng.ensures.cases in
    gave_next c.args.self.now.shards c.in-Some.step c.in_ok-copy.field-0 c.args.self.now.given.items _ c.args.self.now.rng c.in_ok-rng.rng c.next_word-word.new.self c.next_word-operand.new.self _
    c.next_word-word.result c.next_word-operand.result (cloned h.2 h.3 h.4.0 h.4.1) c.next_word-word.ensures c.next_word-operand.ensures c.in-Some.ensures.value (search rules) (search rules) (search rules) (search rules)
