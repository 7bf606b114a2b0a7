use Rattle.fr_mutation.proofs.MutationLemmas.{get-after}
use Rattle.fr_mutation.proofs.laws.after_law.Goals as goal

pub returns : goal.returns
returns c = get-after
