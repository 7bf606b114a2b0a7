use Rattle.fr_mutation.proofs.CodecLaws.{spelling_is_read}
use Rattle.fr_mutation.proofs.codec.laws.spelling_is_read.Goals as goal

pub returns : goal.returns
returns c = spelling_is_read
