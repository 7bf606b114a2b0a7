use Rattle.fr_run_outcomes.proofs.Pulling.{PullRules, committed_is_pulled, marked_is_served, chosen_is_served}
use Rattle.fr_run_outcomes.proofs.progress.pulling_law.Goals as goal

pub returns : goal.returns
returns c =
    let rules : PullRules = record {
      laws = c.lower_laws.ensures;
      retrievable = c.headline_law.ensures.retrievable;
      storages = c.follow_law.ensures.storages;
      applied = c.position_law.ensures.peeked_applied;
    } in
    record {
      pulled = committed_is_pulled rules;
      marked = marked_is_served rules c.hearing_law.ensures;
      served = chosen_is_served rules c.marking_law.ensures c.hearing_law.ensures;
    }
