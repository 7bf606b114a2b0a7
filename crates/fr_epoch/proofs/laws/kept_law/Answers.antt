use Rattle.fr_epoch.proofs.Kept.{new_is_kept, hear_is_kept}
use Rattle.fr_epoch.proofs.laws.kept_law.Goals as goal

pub returns : goal.returns
returns c = record { new = new_is_kept; hear = hear_is_kept c.tail_law.ensures.complete c.tail_law.ensures.ends c.next_law.ensures.within }
