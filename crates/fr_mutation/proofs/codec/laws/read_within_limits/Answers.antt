use Rattle.fr_mutation.proofs.CodecFields.{IsBytes-from_All}
use Rattle.fr_mutation.proofs.CodecLaws.{decoded_is_spelled}
use Rattle.fr_mutation.proofs.codec.laws.read_within_limits.Goals as goal

pub returns : goal.returns
returns c = λ bytes mutations used fits e. let s = decoded_is_spelled bytes mutations used (IsBytes-from_All bytes fits) e in (s.1, s.0)
