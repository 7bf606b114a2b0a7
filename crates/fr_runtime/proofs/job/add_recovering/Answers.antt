use Rattle.fr_runtime.proofs.Gathers.{recover-more}
use Rattle.fr_runtime.proofs.job.add_recovering.Goals as goal

pub loop-ballot-preserved : goal.loop-ballot-preserved
loop-ballot-preserved g c =
    recover-more c.args.ballots.now c.loop-ballot.ballot-index c.ballot-item.result c.loop-ballot.all.items c.put.new.all.items c.args.all.now.items c.loop-ballot-test.true c.ballot-item.is c.in_ok-put.ensures c.loop-ballot.invariant
