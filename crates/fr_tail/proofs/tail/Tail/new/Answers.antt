use Rattle.std.proofs.Common.{◌≡◌, arith, rules}
use Rattle.fr_tail.proofs.Shapes.{new_is_tail, new_parts_more, new_parts_count}
use Rattle.fr_tail.proofs.tail.Tail.new.Goals as goal

pub loop-preserved : goal.loop-preserved
loop-preserved c = new_parts_more c.args.pev c.loop.counter c.loop.parts.items c.push.new.self.items c.new-in-loop.result c.loop.invariant c.new-in-loop.ensures c.in_ok-push.ensures.items

pub invariant_of-result : goal.invariant_of-result
invariant_of-result c =
    let end = c.loop-test.false in
    let upto = c.loop.auto.counter-end in
    let all = new_parts_count c.args.pev c.args.tags c.loop.counter c.loop.parts.items (omega (arith, end, upto)) c.loop.invariant in
    let m : c.in-Some.shape.m ≡ c.args.m = search rules in
    let k : c.in-Some.shape.k ≡ c.args.k = search rules in
    rw (m, k) (new_is_tail c.args.tags c.args.m c.args.k c.args.responders.items c.args.pev c.args.rv c.loop.parts.items all.0 all.1 c.requires.some c.requires.fits c.requires.limit c.requires.tags c.requires.order c.requires.room)
