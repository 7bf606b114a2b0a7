use Rattle.fr_run_outcomes.proofs.Snapshots.{settled_is_snapshot}
use Rattle.fr_run_outcomes.proofs.Settling.{floor_is_settled, settled_stays, snapshot_stays}
use Rattle.fr_run_outcomes.proofs.serving.snapshot_law.Goals as goal

pub returns : goal.returns
returns c =
    let laws = c.lower_laws.ensures in
    let snapshot = settled_is_snapshot laws in
    let stays = settled_stays laws c.below_law.ensures.chosen in
    record {
      snapshot = snapshot;
      floor = floor_is_settled laws c.below_law.ensures.stays c.seeded_law.ensures.chosen;
      stays = stays;
      same = snapshot_stays laws snapshot stays c.committed_law.ensures.latest;
    }
