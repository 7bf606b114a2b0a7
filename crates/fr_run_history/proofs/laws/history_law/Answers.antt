use Rattle.fr_run_history.proofs.History.{Rules, histories_are_serializable}
use Rattle.fr_run_history.proofs.laws.history_law.Goals as goal

pub returns : goal.returns
returns c =
    let rules : Rules = record {
      there = c.committed_law.ensures.there;
      number = c.once_law.ensures.number;
      submitted = c.once_law.ensures.submitted;
      exactly = c.once_law.ensures.exactly;
      read = c.read_law.ensures.committed;
      stays = c.read_law.ensures.same;
      acknowledged = c.real_time_law.ensures.acknowledged;
      settled = c.real_time_law.ensures.settled;
    } in
    histories_are_serializable rules
