use Rattle.fr_tags.proofs.SplitLawProof.{each_log_is_served, each_log_has_its_bodies, held_tags_have_their_clips}
use Rattle.fr_tags.proofs.laws.split_law.Goals as goal

pub returns : goal.returns
returns c = record {
  served = each_log_is_served;
  bodies = each_log_has_its_bodies;
  clips = held_tags_have_their_clips;
}
