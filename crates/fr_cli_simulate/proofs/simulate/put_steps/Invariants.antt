use Rattle.std.proofs.Common.{◌≡◌}
use Rattle.fr_cli_simulate.proofs.simulate.put_steps.Given as goal

abbrev pub invariant-loop-act : goal.invariant-loop-act
invariant-loop-act g l = l.calls ≡ l.fn.calls
