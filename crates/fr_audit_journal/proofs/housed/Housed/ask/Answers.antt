use Rattle.fr_audit_journal.specs.Replays.{steps}
use Rattle.fr_audit_journal.proofs.Appended.{settled-fails, settled-fits}
use Rattle.fr_audit_journal.proofs.housed.Housed.ask.Goals as goal

pub above-at-requires-clause-fits : goal.above-at-requires-clause-fits
above-at-requires-clause-fits g c =
    let N = g.N.Plain.Named in
    let M = g.N.Plain.Machine in
    let m = steps N.wrapped N.unwrapped N.wrapped_tell M.told M.after in
    λ k l. settled-fits m c.args.self.now c.settle.new.self.entries c.args.stamp c.in-Ok.ensures.settled (c.refusal.ensures.fits c.in_default.is)

pub returns-in-Err-serve_new-clause-err : goal.returns-in-Err-serve_new-clause-err
returns-in-Err-serve_new-clause-err g c =
    let N = g.N.Plain.Named in
    let M = g.N.Plain.Machine in
    let m = steps N.wrapped N.unwrapped N.wrapped_tell M.told M.after in
    settled-fails m c.args.self.now c.settle.new.self c.serve_new.new.self c.args.stamp c.above-at.result c.args.from c.args.ask c.in-Err-serve_new.fault c.in-Ok.ensures.settled c.in-Ok.ensures.first c.in-Ok.ensures.stands c.above-at.ensures.value c.in-Err-serve_new.ensures.err
