use Rattle.fr_run_history.proofs.Late.{late_is_numbered_low}
use Rattle.fr_run_history.proofs.example.late_law.Goals as goal

pub returns : goal.returns
returns c = late_is_numbered_low
