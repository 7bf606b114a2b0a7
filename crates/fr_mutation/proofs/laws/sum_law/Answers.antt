use Rattle.std.proofs.Common.{◌+◌, length}
use Rattle.fr_mutation.specs.LittleEndian.{number_of}
use Rattle.fr_mutation.specs.Values.{fitted}
use Rattle.fr_mutation.proofs.Digits.{length-low_bytes, number_of-low_bytes}
use Rattle.fr_mutation.proofs.laws.sum_law.Goals as goal

pub returns : goal.returns
returns c = λ old param.
    let total = number_of (fitted (length param) old) + number_of param in
    (length-low_bytes (length param) total, number_of-low_bytes (length param) total)
