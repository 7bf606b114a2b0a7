use Rattle.fr_record_log.proofs.Putting.{at_first, from_first}
use Rattle.fr_record_log.proofs.whole.push_at.Goals as goal

pub first_push-requires-clause-numbers : goal.first_push-requires-clause-numbers
first_push-requires-clause-numbers c = at_first c.args.log.now.pushes c.args.index c.args.numbers c.if-index-eq0.true c.requires.numbers

pub returns-then-index-eq0 : goal.returns-then-index-eq0
returns-then-index-eq0 c = from_first c.args.log.now.pushes c.args.index c.first_push.result c.if-index-eq0.true c.first_push.ensures
