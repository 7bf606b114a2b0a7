use Rattle.fr_run_outcomes.proofs.Returning.{ReturnRules, unlocked, returns_or_is_full, service_returns}
use Rattle.fr_run_outcomes.proofs.progress.return_law.Goals as goal

pub returns : goal.returns
returns c =
    let rules : ReturnRules = record {
      laws = c.node_laws.ensures;
      changes = c.change_law.ensures.change;
      accounted = c.ask_law.ensures.accounted;
      order = c.cells_law.ensures.order;
      least = c.chosen_law.ensures.least;
      opened = c.chosen_law.ensures.opened;
      greatest = c.parents_law.ensures.greatest;
      read = c.parents_law.ensures.read;
      planned = c.line_law.ensures.planned;
      states = c.states_law.ensures.states;
      seeded = c.seeded_law.ensures.writing;
      recovers = c.recovery_law.ensures.ended;
      served = c.pulling_law.ensures.served;
    } in
    record { served = service_returns rules; ended = returns_or_is_full rules; unlocked = unlocked rules }
