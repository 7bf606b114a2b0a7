use Rattle.fr_run_outcomes.proofs.Dropping.{pops_and_drops}
use Rattle.fr_run_outcomes.proofs.example.pops_law.Goals as goal

pub returns : goal.returns
returns c = pops_and_drops
