use Rattle.fr_segment.proofs.OpenRun.{pair_left_stands}
use Rattle.fr_segment.proofs.TurnsLemmas.{one_pair}
use Rattle.fr_segment.proofs.laws.pair_law.Goals as goal

pub returns : goal.returns
returns c = record { one_pair = one_pair; whole_or_not = pair_left_stands }
