use Rattle.fr_run_outcomes.proofs.ServingReads.{read_is_committed, read_stays}
use Rattle.fr_run_outcomes.proofs.Settling.{committed_same}
use Rattle.fr_run_outcomes.proofs.serving.read_law.Goals as goal

pub returns : goal.returns
returns c =
    let snapshot = c.snapshot_law.ensures in
    record {
      committed = read_is_committed snapshot.snapshot;
      stays = read_stays snapshot.stays snapshot.same c.committed_law.ensures.latest;
      same = committed_same c.lower_laws.ensures;
    }
