-- What a proxy heard is entered.
use Rattle.std.proofs.Common.{ap, refl, ◌∙◌, None, Some}
use Rattle.fr_audit_journal.specs.declared.act.Act.TheVariants as act
use Rattle.fr_audit_journal.specs.declared.act.Entry.{Entry}
use Rattle.fr_node.specs.Steps.{ProxyStep}
use Rattle.fr_node.proofs.Leads.{leads-entered}
use Rattle.fr_node.proofs.proxies.ProxyNode.hear.Goals as goal

pub invariant_of-self-in_err-answered : goal.invariant_of-self-in_err-answered
invariant_of-self-in_err-answered c =
    let e : Entry = record { stamp = c.in-Some.stamp; act = act.Heard c.args.from c.args.tell None (Some c.in_ok-outcome.outcome) } in
    leads-entered ProxyStep _ _ _ e _ _ c.self.invariant (c.put.ensures.entries ∙ rw c.reserve.ensures.entries refl)
    (refl, (ap Some c.in_ok-outcome.ensures.outcome, c.in_ok-outcome.ensures.state))

pub invariant_of-self-2 : goal.invariant_of-self-2
invariant_of-self-2 c =
    let e : Entry = record { stamp = c.in-Some.stamp; act = act.Heard c.args.from c.args.tell None (Some c.in_ok-outcome.outcome) } in
    leads-entered ProxyStep _ _ _ e _ _ c.self.invariant (c.put.ensures.entries ∙ rw c.reserve.ensures.entries refl)
    (refl, (ap Some c.in_ok-outcome.ensures.outcome, c.in_ok-outcome.ensures.state))
