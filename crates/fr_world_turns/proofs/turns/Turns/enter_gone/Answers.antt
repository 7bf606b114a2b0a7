use Rattle.std.proofs.Common.{subst}
use Rattle.fr_world_turns.specs.Finding.{AreGoneFound}
use Rattle.fr_world_turns.proofs.Founds.{are_found_later}
use Rattle.fr_world_turns.proofs.turns.Turns.enter_gone.Goals as goal

-- what was asked and told is found as before
pub invariant_of-self : goal.invariant_of-self
invariant_of-self c =
    let h = c.self.inside in (
      are_found_later h.turns.items h.indexed h.places c.enter_departed.new.places c.self.invariant.0 c.enter_departed.ensures.grows,
      subst (λ turns. AreGoneFound turns c.enter_departed.new.departed c.enter_departed.new.places) c.as_slice.ensures.value c.enter_departed.ensures.found,
    )
