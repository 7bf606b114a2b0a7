use Rattle.std.proofs.Common.{ℕ, ◌≤◌, length}
use Rattle.fr_cli_json.specs.Mutations.{mutation_of}
use Rattle.fr_cli_json.proofs.TokenLemmas.{AllRead}
use Rattle.fr_cli_json.proofs.tokens.mutations.read_batch.Given as goal

abbrev pub invariant-loop-alloc : goal.invariant-loop-alloc
invariant-loop-alloc l = (n : ℕ) × (length l.reader ≤ n) × AllRead mutation_of 122 l.initial.reader n l.mutations.items l.reader × (length l.reader ≤ length l.initial.reader)

abbrev pub decreases-loop-alloc : goal.decreases-loop-alloc
decreases-loop-alloc l = length l.reader
