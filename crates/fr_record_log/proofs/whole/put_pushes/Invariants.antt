use Rattle.std.proofs.Common.{◌≡◌, ◌<◌, ◌++◌, length, map, take, All}
use Rattle.std.specs.Prelude.{◌^◌}
use Rattle.fr_record.specs.Group.{records_of}
use Rattle.fr_record_log.specs.Spelling.{spelled_push}
use Rattle.fr_record_log.proofs.whole.put_pushes.Given as goal

-- a front of the pushes is written
abbrev pub invariant-loop-index : goal.invariant-loop-index
invariant-loop-index l = record {
  written : records_of l.group.items ≡ records_of l.initial.group.items ++ map spelled_push (take l.index l.log.pushes);
  short : All (λ v. length v.items < 2 ^ 32) l.group.items;
}
