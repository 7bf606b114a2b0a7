use Rattle.std.proofs.Common.{◌≡◌, ◌-◌, ◌^◌, min, length, take}
use Rattle.fr_record.specs.File.{frames}
use Rattle.fr_record.specs.Group.{records_of}
use Rattle.fr_record.proofs.frame.framed_len.Given as goal

abbrev pub invariant-loop-payload : goal.invariant-loop-payload
invariant-loop-payload l = record { len : l.len ≡ min (length (frames (records_of (take l.payload-index l.group)))) (2 ^ 64 - 1) }
