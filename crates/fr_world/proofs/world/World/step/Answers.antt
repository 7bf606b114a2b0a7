use Rattle.std.proofs.Common.{ap, subst, ◌∙◌}
use Rattle.fr_run_headline.specs.Safety.{IsGrownFrom}
use Rattle.fr_world_nodes.specs.Kept.{WorldState, state_of}
use Rattle.fr_world.proofs.world.World.step.Goals as goal

-- the nodes in the box are those of the world
pub returns-clause-grows : goal.returns-clause-grows
returns-clause-grows c =
    let new = state_of c.step_safely.new.nodes in
    subst (λ (old : WorldState). IsGrownFrom new.config old.turns new.turns) (ap state_of c.deref_mut.ensures.value ∙ c.self.view_is) c.step_safely.ensures.grows
