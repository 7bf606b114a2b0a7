use Rattle.fr_run_headline.proofs.Consistent.{never_inconsistent}
use Rattle.fr_run_headline.proofs.Ordering.{known_is_never_cut, acknowledged_is_never_cut, floor_is_never_cut, floor_is_taken_over, held_is_chosen}
use Rattle.fr_run_headline.proofs.laws.order_law.Goals as goal

pub returns : goal.returns
returns c =
    let laws = c.lower_laws.ensures in
    record { known = known_is_never_cut laws; acknowledged = acknowledged_is_never_cut laws; floors = floor_is_never_cut laws; floors_over = floor_is_taken_over laws; held = held_is_chosen laws; consistent = never_inconsistent laws }
