use Rattle.std.proofs.Common.{◌≡◌, subst}
use Rattle.std.specs.Prelude.{OnErr}
use Rattle.fr_world.specs.Stepping.{Steps, Refuses}
use Rattle.fr_world_nodes.specs.Kept.{WorldState, state_of}
use Rattle.fr_world.proofs.step.step.Goals as goal

-- what is made ready is the world before
pub returns-clause-turn : goal.returns-clause-turn
returns-clause-turn c = subst (λ (w : WorldState). Steps w (state_of c.happen.new.nodes) c.args.event c.happen.result) c.get_ready.ensures.same c.happen.ensures.turn

pub returns-clause-refused : goal.returns-clause-refused
returns-clause-refused c = subst (λ (w : WorldState). Refuses w c.args.event c.happen.result) c.get_ready.ensures.same c.happen.ensures.refused

pub returns-clause-err : goal.returns-clause-err
returns-clause-err c = subst (λ (w : WorldState). OnErr c.happen.result (state_of c.happen.new.nodes ≡ w)) c.get_ready.ensures.same c.happen.ensures.err
