use Rattle.fr_mutation.proofs.MutationLemmas.{after-append}
use Rattle.fr_mutation.proofs.laws.after_all_law.Goals as goal

pub returns : goal.returns
returns c = after-append
