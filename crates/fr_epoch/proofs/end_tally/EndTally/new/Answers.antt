use Rattle.std.proofs.Common.{refl}
use Rattle.fr_epoch.proofs.Ends.{new_is_kept}
use Rattle.fr_epoch.proofs.end_tally.EndTally.new.Goals as goal

pub invariant_of-result-3 : goal.invariant_of-result-3
invariant_of-result-3 c = new_is_kept c.args.m c.args.k _ refl c.requires.some c.requires.fits c.requires.limit
