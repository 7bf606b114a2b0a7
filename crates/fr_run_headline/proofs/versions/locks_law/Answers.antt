use Rattle.fr_run_headline.proofs.Locks.{locked_stands_still, replies_stand_still}
use Rattle.fr_run_headline.proofs.versions.locks_law.Goals as goal

pub returns : goal.returns
returns c = record { told = locked_stands_still c.node_laws.ensures; replies = replies_stand_still c.node_laws.ensures }
