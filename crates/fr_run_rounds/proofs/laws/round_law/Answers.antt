use Rattle.fr_run_rounds.proofs.Coming.{ComeRules, rounds_can_come}
use Rattle.fr_run_rounds.proofs.laws.round_law.Goals as goal

pub returns : goal.returns
returns c =
    let rules : ComeRules = record {
      laws = c.node_laws.ensures;
      sent = c.pending_law.ensures.sent;
      chosen = c.seeded_law.ensures.chosen;
      writing = c.seeded_law.ensures.writing;
    } in
    rounds_can_come rules
