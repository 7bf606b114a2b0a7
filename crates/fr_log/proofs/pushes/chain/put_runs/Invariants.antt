use Rattle.std.proofs.Common.{◌≡◌, ◌++◌, take}
use Rattle.fr_log.specs.Headers.{headers_in, numbers_in}
use Rattle.fr_log.proofs.pushes.chain.put_runs.Given as goal

-- a front of the runs is put
abbrev pub invariant-loop-run : goal.invariant-loop-run
invariant-loop-run l = l.list.items ≡ l.initial.list.items ++ numbers_in (headers_in (take l.run-index l.runs))
