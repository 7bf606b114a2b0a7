use Rattle.std.proofs.Common.{◌≡◌, ◌-◌, ◌^◌, min, length, take}
use Rattle.fr_segment.specs.File.{body}
use Rattle.fr_segment.specs.Group.{records_of}
use Rattle.fr_segment.proofs.spell.group_len.Given as goal

abbrev pub invariant-loop-payload : goal.invariant-loop-payload
invariant-loop-payload l = record { len : l.len ≡ min (length (body (records_of (take l.payload-index l.group)))) (2 ^ 64 - 1) }
