-- That a recoverer began is entered.
use Rattle.std.proofs.Common.{refl, ◌∙◌}
use Rattle.fr_audit_journal.specs.declared.act.Act.TheVariants as act
use Rattle.fr_audit_journal.specs.declared.act.Entry.{Entry}
use Rattle.fr_node.specs.Steps.{RecStep}
use Rattle.fr_node.proofs.Leads.{leads-entered}
use Rattle.fr_node.proofs.recoverers.RecovererNode.begin.Goals as goal

pub invariant_of-self-2 : goal.invariant_of-self-2
invariant_of-self-2 c =
    let e : Entry = record { stamp = c.in-Some.stamp; act = act.Begun c.self.inside.shape } in
    let i = c.self.invariant in (
      i.0,
      leads-entered (RecStep c.self.inside.first.value.shape) _ _ _ e _ _ i.1 (c.enter.ensures.entries ∙ rw (c.reserve.ensures.entries, c.begun_at-entry.ensures) refl)
          (c.if-self.false, (i.0, refl)),
    )
