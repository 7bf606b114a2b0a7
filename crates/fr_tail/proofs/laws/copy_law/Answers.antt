use Rattle.fr_tail.proofs.TailLaw.{new_copied, hear_copies, complete_copied, seeds_are_whole}
use Rattle.fr_tail.proofs.SeedLists.{seed_has}
use Rattle.fr_tail.proofs.Shapes.{seed_rises}
use Rattle.fr_tail.proofs.laws.copy_law.Goals as goal

pub returns : goal.returns
returns c = record { start = new_copied; hear = hear_copies; complete = complete_copied; seeds = seed_has; rising = seed_rises; whole = seeds_are_whole seed_has }
