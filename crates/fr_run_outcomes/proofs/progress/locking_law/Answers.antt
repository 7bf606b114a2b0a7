use Rattle.fr_run_outcomes.proofs.LockAnswers.{LockRules}
use Rattle.fr_run_outcomes.proofs.Locking.{locking_ends}
use Rattle.fr_run_outcomes.proofs.progress.locking_law.Goals as goal

pub returns : goal.returns
returns c =
    let rules : LockRules = record {
      laws = c.node_laws.ensures;
      changes = c.change_law.ensures.change;
      accounted = c.ask_law.ensures.accounted;
      sent = c.pending_law.ensures.sent;
      only = c.lost_law.ensures.only;
      chosen = c.seeded_law.ensures.chosen;
      writing = c.seeded_law.ensures.writing;
    } in
    locking_ends rules
