use Rattle.std.proofs.Common.{ℕ, ◌≤◌, length}
use Rattle.fr_cli_apply.specs.Plan.{planned_of}
use Rattle.fr_cli_json.proofs.TokenLemmas.{AllRead}
use Rattle.fr_cli_apply.proofs.script.tokens.read_operations.Given as goal

abbrev pub invariant-loop-alloc : goal.invariant-loop-alloc
invariant-loop-alloc l = (n : ℕ) × (length l.reader ≤ n) × AllRead planned_of 125 l.initial.reader n l.operations.items l.reader × (length l.reader ≤ length l.initial.reader)

abbrev pub decreases-loop-alloc : goal.decreases-loop-alloc
decreases-loop-alloc l = length l.reader
