use Rattle.fr_mutation.proofs.CodecFields.{IsBytes-from_All}
use Rattle.fr_mutation.proofs.CodecLaws.{decoded_is_spelled, spelled_is_decoded}
use Rattle.fr_mutation.proofs.codec.laws.one_spelling.Goals as goal

pub returns : goal.returns
returns c = λ bytes mutations used fits le.
    ((λ e. let s = decoded_is_spelled bytes mutations used (IsBytes-from_All bytes fits) e in (s.0, s.2)), (λ s. spelled_is_decoded bytes mutations used s.0 le s.1))
