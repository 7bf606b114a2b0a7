use Rattle.std.proofs.Common.{ap}
use Rattle.fr_audit_journal.specs.Journal.{IsAbove}
use Rattle.fr_audit_journal.proofs.Rising.{rise_with}
use Rattle.fr_audit_journal.proofs.journal.Journal.push_reserved.Goals as goal

pub invariant_of-self : goal.invariant_of-self
invariant_of-self c =
    let above : IsAbove c.self.inside.entries.items c.args.entry.stamp = rw (ap (λ j. j.entries) c.self.view_is) c.requires.rises in
    rw c.push_reserved.ensures.items (rise_with c.self.inside.entries.items c.args.entry c.self.invariant above)
