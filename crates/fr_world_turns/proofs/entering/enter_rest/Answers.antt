use Rattle.std.proofs.Common.{refl, subst}
use Rattle.fr_world_turns.specs.Finding.{AreFound}
use Rattle.fr_world_turns.proofs.Founds.{are_entered, are_found_later}
use Rattle.fr_world_turns.proofs.entering.enter_rest.Goals as goal

pub returns-in_err-enter_at-clause-found : goal.returns-in_err-enter_at-clause-found
returns-in_err-enter_at-clause-found c = are_found_later c.args.turns.now c.loop-place.indexed c.loop-place.places c.enter_at.new.places c.loop-place.invariant.found c.enter_at.ensures.grows

pub loop-place-preserved : goal.loop-place-preserved
loop-place-preserved c =
    let turns = c.args.turns.now in
    let m = c.loop-place.places in
    record {
      grows = λ k f e. c.enter_at.ensures.grows k f (c.loop-place.invariant.grows k f e);
      found = are_entered turns c.loop-place.place m c.enter_at.new.places (subst (λ n. AreFound turns n m) c.loop-place.invariant.next c.loop-place.invariant.found) c.enter_at.ensures.grows c.loop-place-test.true c.in_ok-enter_at.ensures.found;
      next = refl;
    }
