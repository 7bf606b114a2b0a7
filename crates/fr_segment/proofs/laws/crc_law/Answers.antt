use Rattle.fr_segment.proofs.CrcLemmas.{one_byte}
use Rattle.fr_segment.proofs.laws.crc_law.Goals as goal

pub returns : goal.returns
returns c = record { tells = one_byte }
