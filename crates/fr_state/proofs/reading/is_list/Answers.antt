use Rattle.std.proofs.Common.{sym, ◌∙◌, arith}
use Rattle.fr_state.specs.Reading.{generation_at, is_within}
use Rattle.fr_state.proofs.ReadLemmas.{list_goes_on, list_fails, list_beyond, read_some, read_none}
use Rattle.fr_state.proofs.reading.is_list.Goals as goal

pub returns-in_default : goal.returns-in_default
returns-in_default c =
    let read = read_none (is_within (generation_at c.loop.rest.now)) (generation_at c.loop.rest.now) (sym c.generation.ensures ∙ c.in_default.is) in
    list_beyond c.loop.last c.args.count c.loop.counter c.loop.rest.now _ c.loop-test.true read c.loop.invariant.so_far

pub returns-then-not-may_come : goal.returns-then-not-may_come
returns-then-not-may_come c =
    let read = read_some (is_within (generation_at c.loop.rest.now)) (generation_at c.loop.rest.now) c.in-Some.next (sym c.generation.ensures ∙ c.in-Some.is) in
    list_fails c.loop.last c.may_come.result c.in-Some.next c.args.count c.loop.counter c.loop.rest.now _ c.loop-test.true read c.may_come.ensures (cc) c.loop.invariant.so_far

pub loop-preserved : goal.loop-preserved
loop-preserved c =
    let read = read_some (is_within (generation_at c.loop.rest.now)) (generation_at c.loop.rest.now) c.in-Some.next (sym c.generation.ensures ∙ c.in-Some.is) in
    record {
      room = omega (arith, c.split_at.ensures.back_len);
      so_far = rw c.split_at.ensures.back (list_goes_on c.loop.last c.may_come.result c.in-Some.next c.args.count c.loop.counter c.loop.rest.now _ c.loop-test.true read c.may_come.ensures (cc) c.loop.invariant.so_far);
    }
