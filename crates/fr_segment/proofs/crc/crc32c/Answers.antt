use Rattle.std.proofs.Common.{◌∙◌, ap}
use Rattle.fr_segment.proofs.CrcLemmas.{crc_whole}
use Rattle.std.specs.Int.Bits.{bit_xor}
use Rattle.fr_segment.proofs.crc.crc32c.Goals as goal

pub returns : goal.returns
returns c = ap (λ s. bit_xor s 4294967295) c.extend.ensures ∙ crc_whole c.args.bytes.now
