use Rattle.std.proofs.Common.{sym, ◌∙◌, subst}
use Rattle.fr_record_log.specs.LogFile.{IsSoundLog}
use Rattle.fr_record_log.proofs.Settling.{settled_fresh}
use Rattle.fr_record_log.proofs.log_file.FileLog.fresh.Goals as goal

pub returns-clause-settled : goal.returns-clause-settled
returns-clause-settled c =
    settled_fresh c.letting_law.ensures.unpopped c.args.id.epoch c.args.id.index c.args.m c.args.k c.new.result (subst IsSoundLog (sym c.new.ensures) c.log_within_limits.ensures) (c.new.ensures ∙ c.new-log.ensures)
