use Rattle.std.proofs.Common.{◌≡◌, true, sym, ◌∙◌}
use Rattle.fr_base.specs.declared.place.NodeId.TheVariants as node
use Rattle.fr_run.specs.Tests.{was_told}
use Rattle.fr_world_nodes.specs.Kept.{state_of}
use Rattle.fr_world.proofs.ToProxies.{proxy_may_hear}
use Rattle.fr_world.proofs.events.proxies.heard_by_proxy.Goals as goal

pub tell_proxy-requires-clause-turn : goal.tell_proxy-requires-clause-turn
tell_proxy-requires-clause-turn c =
    let told : was_told c.args.nodes.now.turns.turns c.args.from (node.Proxy c.args.epoch c.args.proxy) c.args.tell ≡ true =
    sym c.was_told-told.ensures ∙ c.if-not-told.false in
    proxy_may_hear c.step_law.ensures.turn (state_of c.args.nodes.now) c.args.epoch c.args.proxy c.args.from c.args.tell c.args.taken (sym c.in_default.ensures) told (sym c.is_some.ensures ∙ c.if-is_some.false)
