use Rattle.fr_storage.proofs.Positions.{marked_applied, marked_floor, peeked_applied, peeked_rises, peeked_floor}
use Rattle.fr_storage.proofs.laws.position_law.Goals as goal

pub returns : goal.returns
returns c = record { marked_applied = marked_applied; marked_floor = marked_floor; peeked_applied = peeked_applied; peeked_rises = peeked_rises; peeked_floor = peeked_floor }
