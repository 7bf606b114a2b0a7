use Rattle.fr_log.specs.SweptLaws.{swept_tells, swept_goes_on, swept_twice, swept_records}
use Rattle.fr_log.proofs.Letting.{lets_go_is_swept, swept_is_log, unpopped_is_swept}
use Rattle.fr_log.proofs.laws.letting_law.Goals as goal

pub returns-clause-tells : goal.returns-clause-tells
returns-clause-tells c = swept_tells

pub returns-clause-goes_on : goal.returns-clause-goes_on
returns-clause-goes_on c = swept_goes_on

pub returns-clause-twice : goal.returns-clause-twice
returns-clause-twice c = swept_twice

pub returns-clause-asks : goal.returns-clause-asks
returns-clause-asks c = lets_go_is_swept

pub returns-clause-log : goal.returns-clause-log
returns-clause-log c = swept_is_log

pub returns-clause-unpopped : goal.returns-clause-unpopped
returns-clause-unpopped c = unpopped_is_swept

pub returns-clause-records : goal.returns-clause-records
returns-clause-records c = swept_records
