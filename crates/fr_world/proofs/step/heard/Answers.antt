use Rattle.std.proofs.Common.{sym, subst}
use Rattle.fr_base.specs.declared.place.NodeId.{NodeId}
use Rattle.fr_run.specs.declared.event.Event.TheVariants as event
use Rattle.fr_world.specs.Stepping.{Refuses}
use Rattle.fr_world_nodes.specs.Kept.{state_of}
use Rattle.fr_world.proofs.step.heard.Goals as goal

-- the node that hears is the one that its kind's own function has
pub returns-in-Proxy-clause-refused : goal.returns-in-Proxy-clause-refused
returns-in-Proxy-clause-refused c =
    subst (λ (by : NodeId). Refuses (state_of c.args.nodes.now) (event.Hear by c.args.from c.args.tell c.args.taken) c.heard_by_proxy.result) (sym c.in-Proxy.is) c.heard_by_proxy.ensures.refused

pub returns-in-Recoverer-clause-refused : goal.returns-in-Recoverer-clause-refused
returns-in-Recoverer-clause-refused c =
    subst (λ (by : NodeId). Refuses (state_of c.args.nodes.now) (event.Hear by c.args.from c.args.tell c.args.taken) c.heard_by_recoverer.result) (sym c.in-Recoverer.is) c.heard_by_recoverer.ensures.refused

pub returns-in-Storage-clause-refused : goal.returns-in-Storage-clause-refused
returns-in-Storage-clause-refused c =
    subst (λ (by : NodeId). Refuses (state_of c.args.nodes.now) (event.Hear by c.args.from c.args.tell c.args.taken) c.heard_by_storage.result) (sym c.in-Storage.is) c.heard_by_storage.ensures.refused
