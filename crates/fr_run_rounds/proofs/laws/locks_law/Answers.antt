use Rattle.fr_run_rounds.proofs.LockRound.{LockRules, locking_is_one_round}
use Rattle.fr_run_rounds.proofs.laws.locks_law.Goals as goal

pub returns : goal.returns
returns c =
    let rules : LockRules = record { laws = c.node_laws.ensures; chosen = c.seeded_law.ensures.chosen; writing = c.seeded_law.ensures.writing } in
    locking_is_one_round rules
