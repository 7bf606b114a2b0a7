use Rattle.fr_run_commits.proofs.Committing.{CommitRules, next_is_answered, next_is_committed}
use Rattle.fr_run_commits.proofs.laws.commit_law.Goals as goal

pub returns : goal.returns
returns c =
    let rules : CommitRules = record {
      laws = c.lower_laws.ensures;
      changes = c.change_law.ensures.change;
      bodies = c.split_law.ensures.bodies;
      served = c.pulling_law.ensures.marked;
    } in
    record { answered = next_is_answered rules; committed = next_is_committed rules }
