use Rattle.fr_proxy.proofs.Given.{put_is_insert, unchanged_is_same, never_err}
use Rattle.fr_proxy.proofs.sequencer.put.Goals as goal

pub returns-in-Err-clause-err : goal.returns-in-Err-clause-err
returns-in-Err-clause-err c = unchanged_is_same c.args.given.now c.insert.new.self c.in-Err.ensures.err

pub returns-in-Err-clause-free : goal.returns-in-Err-clause-free
returns-in-Err-clause-free c = λ has. absurd (never_err c.args.given.now c.args.proxy c.in-Err.ensures.absent has)

pub returns-in-Ok-clause-ok : goal.returns-in-Ok-clause-ok
returns-in-Ok-clause-ok c = put_is_insert c.args.given.now c.insert.new.self c.args.proxy c.args.number c.in-Ok.ensures.updates
