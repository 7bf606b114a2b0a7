use Rattle.std.proofs.Common.{ap}
use Rattle.fr_record.specs.Group.{records_of}
use Rattle.fr_record_log.proofs.Putting.{none_of_log}
use Rattle.fr_record_log.proofs.whole.spelled.Goals as goal

pub returns-in-None-clause-records : goal.returns-in-None-clause-records
returns-in-None-clause-records c = none_of_log c.args.log.now (records_of c.new.result.items) (ap records_of c.new.ensures.items) c.in-None.ensures.value
