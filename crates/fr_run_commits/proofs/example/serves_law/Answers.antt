use Rattle.fr_run_commits.proofs.First.{first_serves}
use Rattle.fr_run_commits.proofs.example.serves_law.Goals as goal

pub returns : goal.returns
returns c = first_serves
