use Rattle.fr_segment.proofs.HeaderLemmas.{one_file, one_owner}
use Rattle.fr_segment.proofs.laws.header_law.Goals as goal

pub returns-clause-one_file : goal.returns-clause-one_file
returns-clause-one_file c = one_file

pub returns-clause-one_owner : goal.returns-clause-one_owner
returns-clause-one_owner c = one_owner
