use Rattle.fr_mutation.proofs.ClipLemmas.{after-clipped}
use Rattle.fr_mutation.proofs.laws.clip_law.Goals as goal

pub returns : goal.returns
returns c = after-clipped
