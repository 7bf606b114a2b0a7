use Rattle.std.proofs.Common.{◌≡◌, ◌<◌, ◌++◌, length, map, take, All}
use Rattle.std.specs.Prelude.{◌^◌}
use Rattle.fr_record.specs.Group.{records_of}
use Rattle.fr_record_log.specs.Spelling.{spelled_seeded}
use Rattle.fr_record_log.proofs.spelling.put_records.Given as goal

-- a front of the records is written
abbrev pub invariant-loop-record : goal.invariant-loop-record
invariant-loop-record l = record {
  written : records_of l.group.items ≡ records_of l.initial.group.items ++ map spelled_seeded (take l.record-index l.records);
  short : All (λ v. length v.items < 2 ^ 32) l.group.items;
}
