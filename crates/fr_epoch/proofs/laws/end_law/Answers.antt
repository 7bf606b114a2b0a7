use Rattle.fr_epoch.proofs.EndLaws.{end_is_of_replies, covered_stays}
use Rattle.fr_epoch.proofs.laws.end_law.Goals as goal

pub returns : goal.returns
returns c = record { end = end_is_of_replies; covered = covered_stays }
