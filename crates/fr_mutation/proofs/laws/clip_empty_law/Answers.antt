use Rattle.fr_mutation.proofs.ClipLemmas.{untouched_from_empty, empty_from_untouched}
use Rattle.fr_mutation.proofs.laws.clip_empty_law.Goals as goal

pub returns : goal.returns
returns c = λ mutations s. (untouched_from_empty mutations s, empty_from_untouched mutations s)
