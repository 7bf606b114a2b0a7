use Rattle.std.proofs.Common.{◌≡◌}
use Rattle.fr_runtime_threads.proofs.client.Client.take_turns.Given as goal

abbrev pub invariant-loop-turn : goal.invariant-loop-turn
invariant-loop-turn g l = record {
  first : l.self.first ≡ l.fn.self.first;
  number : l.self.number ≡ l.fn.self.number;
}
