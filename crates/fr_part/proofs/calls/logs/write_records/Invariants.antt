use Rattle.std.proofs.Common.{◌≡◌, take}
use Rattle.std.specs.List.{flat_map}
use Rattle.fr_part.specs.Answers.{spelled_record}
use Rattle.fr_part.proofs.calls.logs.write_records.Given as goal

abbrev pub invariant-loop-one : goal.invariant-loop-one
invariant-loop-one l = l.bytes.items ≡ flat_map spelled_record (take l.one-index l.records)
