use Rattle.fr_mutation.proofs.ClipLemmas.{clipped-clipped}
use Rattle.fr_mutation.proofs.laws.clip_twice_law.Goals as goal

pub returns : goal.returns
returns c = clipped-clipped
