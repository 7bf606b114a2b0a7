use Rattle.std.proofs.Common.{◌∙◌, sym, arith}
use Rattle.std.proofs.lemmas.Bool.{true≢false}
use Rattle.fr_state.specs.Reading.{generation_at, is_within}
use Rattle.fr_state.proofs.ReadLemmas.{all_within, gens_go_on, read_some, read_none}
use Rattle.fr_state.proofs.reading.generations.Goals as goal

pub unreachable-requires : goal.unreachable-requires
unreachable-requires c =
    let read = read_none (is_within (generation_at c.loop.rest.now)) (generation_at c.loop.rest.now) (sym c.generation.ensures ∙ c.in-None.is) in
    let within = all_within c.args.count c.loop.counter c.loop.rest.now c.loop-test.true c.loop.invariant.within in
    true≢false (sym within.0 ∙ read)

pub loop-preserved : goal.loop-preserved
loop-preserved c =
    let read = read_some (is_within (generation_at c.loop.rest.now)) (generation_at c.loop.rest.now) c.in-Some.next (sym c.generation.ensures ∙ c.in-Some.is) in
    record {
      room = omega (arith, c.split_at.ensures.back_len);
      within = rw c.split_at.ensures.back (all_within c.args.count c.loop.counter c.loop.rest.now c.loop-test.true c.loop.invariant.within).1;
      so_far = rw (c.split_at.ensures.back, c.in_ok-push-in-Some.ensures.items) (gens_go_on c.loop.gens.items c.in-Some.next c.args.count c.loop.counter c.loop.rest.now _ c.loop-test.true read.1 c.loop.invariant.so_far);
    }
