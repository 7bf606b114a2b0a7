use Rattle.std.proofs.Common.{◌≡◌}
use Rattle.fr_runtime_threads.proofs.recovery.recover_once.Given as goal

abbrev pub invariant-loop-to : goal.invariant-loop-to
invariant-loop-to g l = record {
  node : l.recovery.notes.journal.node ≡ l.fn.recovery.notes.journal.node;
  shape : l.recovery.shape ≡ l.fn.recovery.shape;
}
