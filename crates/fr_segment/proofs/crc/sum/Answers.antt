use Rattle.std.proofs.Common.{◌∙◌, ap}
use Rattle.std.specs.Int.Bits.{bit_xor}
use Rattle.fr_segment.specs.Crc.{crc_from}
use Rattle.fr_segment.proofs.CrcLemmas.{sum_parts}
use Rattle.fr_segment.proofs.crc.sum.Goals as goal

pub returns : goal.returns
returns c =
    ap (λ s. bit_xor s 4294967295) (c.extend.ensures ∙ ap (λ s. crc_from s c.args.bytes.now) (c.extend-state.ensures ∙ ap (λ l. crc_from 4294967295 l) c.to_be_bytes.ensures))
    ∙ sum_parts c.args.number c.args.bytes.now
