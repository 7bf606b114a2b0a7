use Rattle.fr_log.specs.SweptLaws.{raised_here, raised_others}
use Rattle.fr_log.proofs.Lawful.{popped_is_known}
use Rattle.fr_log.proofs.Telling.{not_removed_above}
use Rattle.fr_log.proofs.laws.pop_law.Goals as goal

pub returns-clause-known : goal.returns-clause-known
returns-clause-known c = popped_is_known

pub returns-clause-above : goal.returns-clause-above
returns-clause-above c = not_removed_above

pub returns-clause-raised : goal.returns-clause-raised
returns-clause-raised c = λ ps tag version. record { here = raised_here ps tag version; others = raised_others ps tag version }
