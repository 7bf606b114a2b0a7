use Rattle.std.proofs.Common.{◌≡◌, length, map}
use Rattle.fr_runtime_station.specs.Named.{logs_named}
use Rattle.fr_runtime_threads.proofs.recovery.fresh_logs.Given as goal

-- a log for each number so far, in its place
abbrev pub invariant-loop-index : goal.invariant-loop-index
invariant-loop-index g l = record {
  number : length l.logs.items ≡ l.index;
  named : map (λ log. log.place) l.logs.items ≡ logs_named l.generation.epoch (length l.logs.items);
}
