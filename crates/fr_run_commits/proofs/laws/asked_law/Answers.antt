use Rattle.fr_run_commits.proofs.Sent.{number_is_told, are_pushed}
use Rattle.fr_run_commits.proofs.laws.asked_law.Goals as goal

pub returns : goal.returns
returns c =
    let laws = c.node_laws.ensures in
    record { told = number_is_told laws; pushed = are_pushed laws }
