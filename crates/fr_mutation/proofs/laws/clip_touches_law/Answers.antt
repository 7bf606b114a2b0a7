use Rattle.fr_mutation.proofs.ClipLemmas.{touched-clipped}
use Rattle.fr_mutation.proofs.laws.clip_touches_law.Goals as goal

pub returns : goal.returns
returns c = touched-clipped
