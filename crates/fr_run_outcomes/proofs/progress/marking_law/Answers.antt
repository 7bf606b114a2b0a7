use Rattle.fr_run_outcomes.proofs.Marking.{MarkRules, mark_is_held}
use Rattle.fr_run_outcomes.proofs.progress.marking_law.Goals as goal

pub returns : goal.returns
returns c =
    let rules : MarkRules = record {
      laws = c.node_laws.ensures;
      changes = c.change_law.ensures.change;
      sent = c.pending_law.ensures.sent;
      held = c.told_law.ensures.held;
      own = c.logs_law.ensures.own;
      seeded = c.seeded_law.ensures.writing;
    } in
    mark_is_held rules
