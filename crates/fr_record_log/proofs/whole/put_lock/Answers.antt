use Rattle.std.proofs.Common.{ap, ◌∙◌}
use Rattle.fr_record.specs.Group.{records_of}
use Rattle.fr_record_log.proofs.Putting.{no_stop, one_stop}
use Rattle.fr_record_log.proofs.whole.put_lock.Goals as goal

pub returns-in_ok-push-in-true-clause-records : goal.returns-in_ok-push-in-true-clause-records
returns-in_ok-push-in-true-clause-records c = ap records_of c.in_ok-push-in-true.ensures.items ∙ one_stop c.args.group.now.items c.in_ok-lock-in-true.field-0 c.args.stopped c.in-true.is c.in_ok-lock-in-true.ensures

pub returns-in-false-clause-records : goal.returns-in-false-clause-records
returns-in-false-clause-records c = no_stop (records_of c.args.group.now.items) c.args.stopped c.in-false.is
