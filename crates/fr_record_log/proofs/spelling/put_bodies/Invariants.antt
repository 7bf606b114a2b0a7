use Rattle.std.proofs.Common.{◌≡◌, ◌*◌, ◌≤◌, ◌++◌, length, take}
use Rattle.std.specs.List.{flat_map}
use Rattle.fr_record_log.specs.Spelling.{spelled_body}
use Rattle.fr_record_log.proofs.spelling.put_bodies.Given as goal

-- a front of the bodies is written
abbrev pub invariant-loop-body : goal.invariant-loop-body
invariant-loop-body l = record {
  written : l.out.items ≡ l.initial.out.items ++ flat_map spelled_body (take l.body-index l.bodies);
  short : length (flat_map spelled_body (take l.body-index l.bodies)) ≤ 110007008 * l.body-index;
}
