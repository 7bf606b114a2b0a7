use Rattle.std.proofs.Common.{subst}
use Rattle.fr_world_turns.specs.Finding.{AreFound}
use Rattle.fr_world_turns.proofs.Founds.{gone_are_found_later}
use Rattle.fr_world_turns.proofs.turns.Turns.catch_up.Goals as goal

-- who went is found as before
pub invariant_of-self : goal.invariant_of-self
invariant_of-self c =
    let h = c.self.inside in (
      subst (λ turns. AreFound turns c.enter_rest.new.indexed c.enter_rest.new.places) c.as_slice.ensures.value c.enter_rest.ensures.found,
      gone_are_found_later h.turns.items h.departed h.places c.enter_rest.new.places c.self.invariant.1 c.enter_rest.ensures.grows,
    )
