use Rattle.std.proofs.Common.{◌≡◌, drop}
use Rattle.fr_mutation.specs.Limits.{first_fault}
use Rattle.fr_mutation.proofs.batch.fault_of.Given as goal

-- the mutations that are left break first what all of them do
abbrev pub invariant-loop-mutation : goal.invariant-loop-mutation
invariant-loop-mutation l = first_fault (drop l.mutation-index l.mutations) ≡ first_fault l.mutations
