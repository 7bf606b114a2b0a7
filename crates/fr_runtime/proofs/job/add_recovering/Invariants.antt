use Rattle.std.proofs.Common.{◌≡◌, ◌++◌, take}
use Rattle.fr_runtime.specs.Job.{recover_jobs}
use Rattle.fr_runtime.proofs.job.add_recovering.Given as goal

-- the jobs of the ballots so far are there
abbrev pub invariant-loop-ballot : goal.invariant-loop-ballot
invariant-loop-ballot g l = l.all.items ≡ l.fn.all.items ++ recover_jobs (take l.ballot-index l.ballots)
