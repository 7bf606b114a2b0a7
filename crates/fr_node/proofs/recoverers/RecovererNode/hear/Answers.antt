-- What a recoverer heard is entered.
use Rattle.std.proofs.Common.{refl, ◌≡◌, ◌∙◌, true, None}
use Rattle.fr_audit_journal.specs.declared.act.Act.TheVariants as act
use Rattle.fr_audit_journal.specs.declared.act.Entry.{Entry}
use Rattle.fr_epoch.specs.Hear.{after_hear}
use Rattle.fr_node.specs.Steps.{RecStep}
use Rattle.fr_node.proofs.Leads.{leads-entered}
use Rattle.fr_node.proofs.recoverers.RecovererNode.hear.Goals as goal

pub invariant_of-self-2 : goal.invariant_of-self-2
invariant_of-self-2 c =
    let e : Entry = record { stamp = c.in-Some.stamp; act = act.Heard c.args.from c.args.tell None None } in
    let i = c.self.invariant in
    let b : c.self.inside.has_begun ≡ true = c.if-not-self.false in
    let n : c.hear.new.self ≡ after_hear c.self.inside.recoverer c.args.from c.args.tell = c.in_ok-_asks.ensures.state in (
      i.0,
      leads-entered (RecStep c.self.inside.first.value.shape) _ _ _ e _ _ i.1 (c.enter.ensures.entries ∙ rw (c.reserve.ensures.entries, c.heard_at-entry.ensures, c.in_ok-copy.ensures.equal) refl)
          (b, (refl, (refl, rw (n, b) refl))),
    )
