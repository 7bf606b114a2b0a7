use Rattle.std.proofs.Common.{◌≡◌, ◌≤◌, ◌++◌, length, take}
use Rattle.fr_log.specs.Search.{seeded_records}
use Rattle.fr_log.proofs.search.gather_seeded.Given as goal

-- what is given so far, of which there is room for all
abbrev pub invariant-loop-record : goal.invariant-loop-record
invariant-loop-record l = record {
  given : l.given.items ≡ l.initial.given.items ++ seeded_records l.tag (take l.record-index l.records);
  room : length l.given.items ≤ l.most;
}
