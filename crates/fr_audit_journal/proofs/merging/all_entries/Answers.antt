use Rattle.std.proofs.Common.{ap, ◌∙◌, sym, ◌++◌}
use Rattle.fr_audit_journal.specs.Merge.{placed_by}
use Rattle.fr_audit_journal.proofs.Places.{all_more}
use Rattle.fr_audit_journal.proofs.merging.all_entries.Goals as goal

pub loop-journal-preserved : goal.loop-journal-preserved
loop-journal-preserved c =
    c.in_ok-entries.ensures
    ∙ ap (λ ps. ps ++ placed_by c.journal-item.result.node c.journal-item.result.entries) c.loop-journal.invariant
    ∙ sym (all_more c.args.journals.now c.loop-journal.journal-index c.journal-item.result c.loop-journal-test.true c.journal-item.is)
