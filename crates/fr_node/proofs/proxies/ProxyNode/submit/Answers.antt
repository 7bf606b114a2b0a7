-- The batch that a proxy took is entered.
use Rattle.std.proofs.Common.{ap, refl, sym, ◌∙◌}
use Rattle.fr_audit_journal.specs.declared.act.Act.TheVariants as act
use Rattle.fr_audit_journal.specs.declared.act.Entry.{Entry}
use Rattle.fr_proxy.specs.Proxy.{submitted}
use Rattle.fr_node.specs.Steps.{ProxyStep}
use Rattle.fr_node.proofs.Leads.{leads-entered}
use Rattle.fr_node.proofs.proxies.ProxyNode.submit.Goals as goal

pub invariant_of-self-2 : goal.invariant_of-self-2
invariant_of-self-2 c =
    let e : Entry = record { stamp = c.in-Some-stamp_above.stamp; act = act.Submitted c.args.step c.args.batch } in
    leads-entered ProxyStep _ _ _ e _ _ c.self.invariant (c.enter.ensures.entries ∙ rw c.reserve.ensures.entries refl)
    (sym c.in-None.ensures, c.in-Ok.ensures.state ∙ ap (submitted c.self.inside.proxy c.args.step) c.in_ok-taken.ensures)
