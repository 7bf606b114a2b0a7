use Rattle.fr_tags.proofs.ShardLawProof.{each_key_is_in_one_shard, tags_are_of_touched_keys, tags_rise}
use Rattle.fr_tags.proofs.laws.shard_law.Goals as goal

pub returns-clause-disjoint : goal.returns-clause-disjoint
returns-clause-disjoint c = each_key_is_in_one_shard

pub returns-clause-touched : goal.returns-clause-touched
returns-clause-touched c = tags_are_of_touched_keys

pub returns-clause-rising : goal.returns-clause-rising
returns-clause-rising c = tags_rise
