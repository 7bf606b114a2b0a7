use Rattle.std.proofs.Common.{◌≡◌, take}
use Rattle.fr_segment.specs.Crc.{crc_from}
use Rattle.fr_segment.proofs.crc.extend.Given as goal

abbrev pub invariant-loop-byte : goal.invariant-loop-byte
invariant-loop-byte l = record { state : l.state ≡ crc_from l.initial.state (take l.byte-index l.bytes) }
