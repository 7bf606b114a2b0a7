use Rattle.std.proofs.Common.{◌≡◌, subst, sym, OnErr}
use Rattle.std.specs.Prelude.{IfOk}
use Rattle.fr_log.specs.Step.{after_ask}
use Rattle.fr_record_log.proofs.Settling.{settled_asked}
use Rattle.fr_record_log.specs.LogFile.{IsSettledLog}
use Rattle.fr_record_log.proofs.log_file.take_ask.Goals.{in-Ok, in-Err}
use Rattle.fr_record_log.proofs.log_file.take_ask.Goals as goal

pub returns-clause-settled : goal.returns-clause-settled
returns-clause-settled c = elim c.match-step.branch [
  | in-Ok w ↦ settled_asked c.letting_law.ensures.twice c.letting_law.ensures.asks c.change_law.ensures.change c.args.log.now c.args.ask c.step.new.self c.ask_within_limits.ensures
      c.requires w.log_within_limits-in-Ok.ensures (subst (λ r. IfOk r (λ t. c.step.new.self ≡ after_ask c.args.log.now c.args.ask)) w.in-Ok.is c.step.ensures.after)
  | in-Err w ↦ subst IsSettledLog (sym (subst (λ r. OnErr r (c.step.new.self ≡ c.args.log.now)) w.in-Err.is c.step.ensures.err)) c.requires
]
