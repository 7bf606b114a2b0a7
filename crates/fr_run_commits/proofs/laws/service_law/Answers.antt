use Rattle.fr_run_commits.proofs.Returning.{ReturnRules, service_returns}
use Rattle.fr_run_commits.proofs.laws.service_law.Goals as goal

pub returns : goal.returns
returns c =
    let rules : ReturnRules = record {
      laws = c.lower_laws.ensures;
      changes = c.change_law.ensures.change;
      accounted = c.ask_law.ensures.accounted;
      read = c.parents_law.ensures.read;
      ends = c.ends_law.ensures.end;
      replies = c.locks_law.ensures.replies;
      marking = c.marking_law.ensures;
      returns = c.return_law.ensures.served;
      unlocked = c.return_law.ensures.unlocked;
      commits = c.commit_law.ensures.committed;
    } in
    service_returns rules
