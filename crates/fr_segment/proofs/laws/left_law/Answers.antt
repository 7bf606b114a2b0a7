use Rattle.fr_segment.proofs.FileLemmas.{unique}
use Rattle.fr_segment.proofs.ReadLemmas.{left_stands, rest_stands}
use Rattle.fr_segment.proofs.laws.left_law.Goals as goal

pub returns-clause-one_list : goal.returns-clause-one_list
returns-clause-one_list c = unique

pub returns-clause-whole_or_not : goal.returns-clause-whole_or_not
returns-clause-whole_or_not c = left_stands

pub returns-clause-at_rest : goal.returns-clause-at_rest
returns-clause-at_rest c = rest_stands
