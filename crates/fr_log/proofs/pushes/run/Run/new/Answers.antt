use Rattle.fr_log.proofs.Runs.{evenly_alone}
use Rattle.fr_log.proofs.pushes.run.Run.new.Goals as goal

pub returns : goal.returns
returns c = evenly_alone c.args.header 1
