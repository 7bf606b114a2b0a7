use Rattle.fr_run_headline.proofs.Acknowledging.{acknowledged_has_batch}
use Rattle.fr_run_headline.proofs.Standing.{acknowledged_is_committed}
use Rattle.fr_run_headline.proofs.laws.acknowledged_law.Goals as goal

pub returns : goal.returns
returns c =
    let laws = c.lower_laws.ensures in
    record { batches = acknowledged_has_batch laws; committed = acknowledged_is_committed laws }
