use Rattle.fr_segment.proofs.DamageLemmas.{one_byte_is_told, closed_is_told, rest_is_free}
use Rattle.fr_segment.proofs.laws.damage_law.Goals as goal

pub returns-clause-one_byte : goal.returns-clause-one_byte
returns-clause-one_byte c = one_byte_is_told

pub returns-clause-closed_gate : goal.returns-clause-closed_gate
returns-clause-closed_gate c = closed_is_told

pub returns-clause-rest : goal.returns-clause-rest
returns-clause-rest c = rest_is_free
