use Rattle.fr_run_headline.proofs.Latest.{latest_is_there, committed_is_there}
use Rattle.fr_run_headline.proofs.Standing.{committed_grows}
use Rattle.fr_run_headline.proofs.laws.committed_law.Goals as goal

pub returns : goal.returns
returns c =
    let laws = c.lower_laws.ensures in
    record { latest = latest_is_there laws; there = committed_is_there laws; grows = committed_grows laws }
