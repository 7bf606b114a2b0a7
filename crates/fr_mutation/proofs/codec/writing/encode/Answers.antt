use Rattle.fr_mutation.proofs.CodecLimits.{all_within}
use Rattle.fr_mutation.proofs.codec.writing.encode.Goals as goal

pub put_mutation-requires : goal.put_mutation-requires
put_mutation-requires c = rw c.mutation-item.is (all_within c.mutations-mutations.result.now c.mutations-mutations.ensures.within c.loop-mutation.mutation-index _ c.loop-mutation-test.true)
