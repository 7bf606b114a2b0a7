use Rattle.std.proofs.Common.{◌≡◌, take}
use Rattle.fr_mutation.specs.Clip.{clipped}
use Rattle.fr_mutation.proofs.shard.clip.Given as goal

-- a front of the mutations is clipped
abbrev pub invariant-loop-mutation : goal.invariant-loop-mutation
invariant-loop-mutation l = l.mutations.items ≡ clipped (take l.mutation-index l.mutation-items) l.shard
