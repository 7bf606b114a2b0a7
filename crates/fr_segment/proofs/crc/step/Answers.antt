use Rattle.std.proofs.Common.{◌∙◌, ◌<◌, arith}
use Rattle.std.specs.Int.Bits.{bit_xor, bit_and, mask_lt}
use Rattle.fr_segment.proofs.CrcLemmas.{table_step}
use Rattle.fr_segment.proofs.TableIs.{table_found}
use Rattle.fr_segment.proofs.crc.step.Goals as goal

pub returns : goal.returns
returns c =
    let low = bit_and (bit_xor c.args.state c.from.result) 255 in
    let small : low < 256 = mask_lt (bit_xor c.args.state c.from.result) 8 in
    table_step c.args.state c.args.byte c.from.result _ c.ranges.byte.fits c.from.ensures (table_found low small)
