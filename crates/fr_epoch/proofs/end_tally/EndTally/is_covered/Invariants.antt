use Rattle.std.proofs.Common.{◌≡◌, take, map, length}
use Rattle.fr_epoch.proofs.end_tally.EndTally.is_covered.Given as goal

-- the logs of the first replies
abbrev pub invariant-loop-i : goal.invariant-loop-i
invariant-loop-i l = record {
  logs : take l.i l.logs ≡ map (λ r. r.log) (take l.i l.self-inside.places);
  size : length l.logs ≡ 16;
}
