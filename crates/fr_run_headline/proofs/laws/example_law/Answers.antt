use Rattle.fr_run_headline.proofs.Example.{rollback_happens}
use Rattle.fr_run_headline.proofs.Recoveries.{survives_two_recoveries}
use Rattle.fr_run_headline.proofs.laws.example_law.Goals as goal

pub returns : goal.returns
returns c = record { rollback = rollback_happens; survives = survives_two_recoveries }
