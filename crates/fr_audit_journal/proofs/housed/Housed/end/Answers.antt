use Rattle.fr_audit_journal.specs.Replays.{steps}
use Rattle.fr_audit_journal.proofs.Appended.{settled-fits}
use Rattle.fr_audit_journal.proofs.housed.Housed.end.Goals as goal

pub above-at-requires-clause-fits : goal.above-at-requires-clause-fits
above-at-requires-clause-fits g c =
    let N = g.N.Plain.Named in
    let M = g.N.Plain.Machine in
    let m = steps N.wrapped N.unwrapped N.wrapped_tell M.told M.after in
    λ k l. settled-fits m c.args.self.now c.settle.new.self.entries c.args.stamp c.in-Ok.ensures.settled (c.refusal.ensures.fits c.in_default.is)
