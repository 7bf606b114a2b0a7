use Rattle.fr_run_history.proofs.RealTime.{committed_later, acknowledged_before, settled_before, acknowledged_is_settled}
use Rattle.fr_run_history.proofs.laws.real_time_law.Goals as goal

pub returns : goal.returns
returns c =
    let laws = c.lower_laws.ensures in
    let later = committed_later laws c.once_law.ensures.submitted c.read_law.ensures.same in
    record {
      later = later;
      acknowledged = acknowledged_before later c.committed_law.ensures.latest c.acknowledged_law.ensures.committed;
      settled = settled_before later;
      readable = acknowledged_is_settled laws c.chosen_law.ensures.opened c.known_law.ensures.acknowledged c.below_law.ensures.chosen c.follow_law.ensures.storages;
    }
