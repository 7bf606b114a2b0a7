use Rattle.std.proofs.Common.{◌≡◌, take, length}
use Rattle.fr_epoch.proofs.end_tally.EndTally.copy.Given as goal

-- the first replies are copied
abbrev pub invariant-loop-i : goal.invariant-loop-i
invariant-loop-i l = record {
  front : take l.i l.places ≡ take l.i l.self-inside.places;
  size : length l.places ≡ 16;
}
