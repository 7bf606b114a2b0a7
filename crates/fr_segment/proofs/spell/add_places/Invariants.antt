use Rattle.std.proofs.Common.{◌≡◌, ◌+◌, ◌-◌, ◌≤◌, ◌++◌, length, take}
use Rattle.std.specs.Vec.{vec_capacity}
use Rattle.fr_segment.specs.File.{body}
use Rattle.fr_segment.specs.Group.{records_of, places_of}
use Rattle.fr_segment.proofs.spell.add_places.Given as goal

abbrev pub invariant-loop-payload : goal.invariant-loop-payload
invariant-loop-payload l = record {
  table : l.table.items ≡ l.initial.table.items ++ places_of l.from (take l.payload-index l.group);
  at : l.at ≡ l.from + length (body (records_of (take l.payload-index l.group)));
  room : length l.table.items + (length l.group - l.payload-index) ≤ vec_capacity l.table;
}
