use Rattle.std.proofs.Common.{◌≡◌}
use Rattle.fr_runtime_threads.proofs.recovery.take_turns.Given as goal

abbrev pub invariant-loop-turn : goal.invariant-loop-turn
invariant-loop-turn g l = record {
  node : l.recovery.notes.journal.node ≡ l.fn.recovery.notes.journal.node;
  shape : l.recovery.shape ≡ l.fn.recovery.shape;
}
