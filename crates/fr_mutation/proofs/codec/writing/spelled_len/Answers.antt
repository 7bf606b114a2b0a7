use Rattle.fr_mutation.proofs.CodecLimits.{all_within}
use Rattle.fr_mutation.proofs.codec.writing.spelled_len.Goals as goal

pub mutation_len-len-requires : goal.mutation_len-len-requires
mutation_len-len-requires c = rw c.mutation-item.is (all_within c.args.mutations.now c.requires c.loop-mutation.mutation-index _ c.loop-mutation-test.true)
