use Rattle.std.proofs.Common.{◌≡◌, ◌+◌, ◌-◌, ◌*◌, ◌++◌}
use Rattle.fr_log.specs.Headers.{evenly, numbers_in}
use Rattle.fr_log.proofs.Numbers.{stepped}
use Rattle.fr_log.proofs.pushes.run.put_evenly.Given as goal

-- what was put and what is still to be put are all numbers
abbrev pub invariant-loop : goal.invariant-loop
invariant-loop l = record {
  so_far : l.list.items ++ stepped l.last l.step (l.more - l.counter) ≡ l.fn.list.items ++ numbers_in (evenly l.first l.step l.more);
  version : l.last.version ≡ l.first.version + l.counter * l.step;
  known : l.last.known ≡ l.first.known + l.counter * l.step;
}
