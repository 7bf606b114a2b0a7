use Rattle.std.proofs.Common.{◌≡◌, ◌<◌, ◌+◌, ℕ, false}
use Rattle.fr_runtime_threads.proofs.recovery.first_turn.Given as goal

-- at no turn so far
abbrev pub invariant-loop-before : goal.invariant-loop-before
invariant-loop-before g l = (turn : ℕ) → turn < l.before → g.F.Faults.begun l.faults l.ballot (turn + 1) ≡ false
