use Rattle.fr_mutation.proofs.CodecLaws.{one_front}
use Rattle.fr_mutation.proofs.codec.laws.no_spelling_begins_another.Goals as goal

pub returns : goal.returns
returns c = one_front
