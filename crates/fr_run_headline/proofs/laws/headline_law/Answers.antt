use Rattle.fr_run_headline.proofs.Retrieving.{committed_is_retrievable}
use Rattle.fr_run_headline.proofs.Standing.{headline}
use Rattle.fr_run_headline.proofs.laws.headline_law.Goals as goal

pub returns : goal.returns
returns c =
    let laws = c.lower_laws.ensures in
    record { undo = c.inverse_law.ensures; headline = headline laws; retrievable = committed_is_retrievable laws }
