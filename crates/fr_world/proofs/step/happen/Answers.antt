use Rattle.std.proofs.Common.{sym, subst}
use Rattle.fr_run.specs.declared.event.Event.{Event}
use Rattle.fr_world.specs.Stepping.{Refuses}
use Rattle.fr_world_nodes.specs.Kept.{state_of}
use Rattle.fr_world.proofs.step.happen.Goals as goal

-- the event is the one that its kind's own function has
pub returns-in-Deliver-clause-refused : goal.returns-in-Deliver-clause-refused
returns-in-Deliver-clause-refused c = subst (λ (e : Event). Refuses (state_of c.args.nodes.now) e c.delivered.result) (sym c.in-Deliver.is) c.delivered.ensures.refused

pub returns-in-Hear-clause-refused : goal.returns-in-Hear-clause-refused
returns-in-Hear-clause-refused c = subst (λ (e : Event). Refuses (state_of c.args.nodes.now) e c.heard.result) (sym c.in-Hear.is) c.heard.ensures.refused

pub returns-in-Submit-clause-refused : goal.returns-in-Submit-clause-refused
returns-in-Submit-clause-refused c = subst (λ (e : Event). Refuses (state_of c.args.nodes.now) e c.submitted.result) (sym c.in-Submit.is) c.submitted.ensures.refused
