use Rattle.fr_log.proofs.Chains.{seed_non_decreasing}
use Rattle.fr_log.proofs.log.Log.seed_records.Goals as goal

pub returns-in-Some-clause-order : goal.returns-in-Some-clause-order
returns-in-Some-clause-order c = rw c.records.ensures.value (seed_non_decreasing 0 0 _ c.records.ensures.sound.rising)
