use Rattle.std.proofs.Common.{◌≡◌, length, map}
use Rattle.fr_runtime_station.specs.Named.{logs_named}
use Rattle.fr_runtime.proofs.prepare.logs.Given as goal

-- a log for each number so far, in its place
abbrev pub invariant-loop-index : goal.invariant-loop-index
invariant-loop-index g l = record {
  number : length l.all.items ≡ l.index;
  named : map (λ log. log.place) l.all.items ≡ logs_named 257 (length l.all.items);
}
