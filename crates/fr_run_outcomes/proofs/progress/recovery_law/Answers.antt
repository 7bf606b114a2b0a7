use Rattle.fr_run_outcomes.proofs.Recovering.{Phases, recovery_ends, no_dead_end}
use Rattle.fr_run_outcomes.proofs.progress.recovery_law.Goals as goal

pub returns : goal.returns
returns c =
    let k : Phases = record {
      laws = c.node_laws.ensures;
      changes = c.change_law.ensures.change;
      accounted = c.ask_law.ensures.accounted;
      meets = c.cover_law.ensures.covering;
      read = c.parents_law.ensures.read;
      reading = c.reading_law.ensures;
      locking = c.locking_law.ensures;
      copying = c.copying_law.ensures;
      seeding = c.seeding_law.ensures;
      writing = c.writing_law.ensures;
    } in
    record { chosen = no_dead_end k; ended = recovery_ends k }
