use Rattle.fr_run_headline.proofs.Taking.{below_is_held_behind, below_stays_below, chosen_stays_below, acknowledged_is_kept}
use Rattle.fr_run_headline.proofs.versions.below_law.Goals as goal

pub returns : goal.returns
returns c =
    let laws = c.node_laws.ensures in
    record { held = below_is_held_behind laws; stays = below_stays_below laws; chosen = chosen_stays_below laws; acknowledged = acknowledged_is_kept laws }
