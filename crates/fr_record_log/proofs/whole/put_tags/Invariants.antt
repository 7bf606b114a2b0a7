use Rattle.std.proofs.Common.{◌≡◌, ◌<◌, ◌++◌, length, map, take, All}
use Rattle.std.specs.Prelude.{◌^◌}
use Rattle.fr_record.specs.Group.{records_of}
use Rattle.fr_record_log.specs.Spelled.{spelled_tag}
use Rattle.fr_record_log.proofs.whole.put_tags.Given as goal

-- a front of the tags is written
abbrev pub invariant-loop-entry : goal.invariant-loop-entry
invariant-loop-entry l = record {
  written : records_of l.group.items ≡ records_of l.initial.group.items ++ map spelled_tag (take l.entry-index l.tags);
  short : All (λ v. length v.items < 2 ^ 32) l.group.items;
}
