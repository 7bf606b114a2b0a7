use Rattle.fr_tags.proofs.CoverLawProof.{each_tag_has_holders, held_by_holders, covering_meets_each_tag, fewer_may_miss_each_tag, holder_is_left, distinct_logs_count}
use Rattle.fr_tags.proofs.laws.cover_law.Goals as goal

pub returns : goal.returns
returns c = record {
  holders = each_tag_has_holders;
  held = held_by_holders;
  covering = covering_meets_each_tag;
  tight = fewer_may_miss_each_tag;
  left = holder_is_left;
  counted = distinct_logs_count;
}
