use Rattle.fr_run_commits.proofs.Committing.{CommitRules}
use Rattle.fr_run_commits.proofs.Landing.{flight_lands, commits_go_on}
use Rattle.fr_run_commits.proofs.LandingPush.{FlightRules}
use Rattle.fr_run_commits.proofs.laws.flight_law.Goals as goal

pub returns : goal.returns
returns c =
    let commits : CommitRules = record {
      laws = c.lower_laws.ensures;
      changes = c.change_law.ensures.change;
      bodies = c.split_law.ensures.bodies;
      served = c.pulling_law.ensures.marked;
    } in
    let rules : FlightRules = record { commits = commits; once = c.once_law.ensures.number } in
    record { lands = flight_lands rules; commits = commits_go_on rules c.commit_law.ensures.committed }
