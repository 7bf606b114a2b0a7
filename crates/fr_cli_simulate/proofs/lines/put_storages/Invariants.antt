use Rattle.std.proofs.Common.{◌≡◌}
use Rattle.fr_cli_simulate.proofs.lines.put_storages.Given as goal

abbrev pub invariant-loop-number : goal.invariant-loop-number
invariant-loop-number g l = l.calls ≡ l.fn.calls
