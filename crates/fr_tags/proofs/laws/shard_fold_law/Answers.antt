use Rattle.fr_tags.proofs.SplitLawProof.{clips_make_the_part, clips_make_the_part_from_nothing, empty_batches_make_nothing, filled_clips_make_the_part}
use Rattle.fr_tags.proofs.laws.shard_fold_law.Goals as goal

pub returns : goal.returns
returns c = record {
  part = clips_make_the_part c.clip_law.ensures;
  empty = clips_make_the_part_from_nothing c.clip_law.ensures;
  left_out = empty_batches_make_nothing c.after_law.ensures;
  filled = filled_clips_make_the_part c.clip_law.ensures c.after_law.ensures;
}
