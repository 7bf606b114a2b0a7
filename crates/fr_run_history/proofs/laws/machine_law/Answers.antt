use Rattle.fr_run_history.proofs.Reaching.{Rules}
use Rattle.fr_run_history.proofs.Refining.{Answering, histories_are_of_machine}
use Rattle.fr_run_history.proofs.laws.machine_law.Goals as goal

pub returns : goal.returns
returns c =
    let rules : Rules = record {
      laws = c.lower_laws.ensures;
      latest = c.committed_law.ensures.latest;
      counted = c.proxies_law.ensures.counted;
      number = c.once_law.ensures.number;
      submitted = c.once_law.ensures.submitted;
      floor = c.snapshot_law.ensures.floor;
      stays = c.snapshot_law.ensures.stays;
    } in
    let answering : Answering = record {
      proxies = c.proxies_law.ensures.proxies;
      exactly = c.once_law.ensures.exactly;
      read = c.read_law.ensures.committed;
    } in
    histories_are_of_machine rules answering
