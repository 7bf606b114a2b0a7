use Rattle.std.proofs.Common.{◌∙◌, sym}
use Rattle.fr_base.specs.declared.place.NodeId.TheVariants as node
use Rattle.fr_run.specs.Nodes.{proxy_at}
use Rattle.fr_run.specs.Step.{submitted}
use Rattle.fr_world_nodes.specs.Kept.{state_of}
use Rattle.fr_world.proofs.ToProxies.{proxy_up}
use Rattle.fr_world.proofs.Ups.{refused_up}
use Rattle.fr_world.proofs.events.proxies.submitted.Goals as goal

pub submit-requires-clause-up : goal.submit-requires-clause-up
submit-requires-clause-up c = proxy_up c.step_law.ensures.turn (state_of c.args.nodes.now) c.args.epoch c.args.proxy (sym c.in_default.ensures)

pub returns-in-Some-clause-refused : goal.returns-in-Some-clause-refused
returns-in-Some-clause-refused c =
    let w = state_of c.args.nodes.now in
    let e = c.args.epoch in
    let p = c.args.proxy in
    refused_up w (node.Proxy e p) (submitted (proxy_at w.config w.turns e p) e p c.args.step c.args.batch) c.in-Some.why (sym c.why_not_up.ensures ∙ c.in-Some.is)
