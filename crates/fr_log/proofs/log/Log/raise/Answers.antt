use Rattle.std.proofs.Common.{sym, subst}
use Rattle.fr_log.specs.LogState.{LogState}
use Rattle.fr_log.specs.Chain.{IsKept}
use Rattle.fr_log.proofs.Lawful.{raised_kept}
use Rattle.fr_log.proofs.log.Log.raise.Goals as goal

pub invariant_of-self-2 : goal.invariant_of-self-2
invariant_of-self-2 c =
    let l : LogState = record { epoch = c.self.inside.id.epoch; index = c.self.inside.id.index; m = c.self.inside.shape.m; k = c.self.inside.shape.k; seed = c.self.inside.seed; pushes = c.self.inside.pushes; stopped = c.self.inside.stopped; popped = c.self.inside.popped } in
    subst (λ ps. IsKept (record l { popped = ps }) c.self.inside.durable c.self.inside.known) (sym c.in_ok-raise.ensures.after)
    (raised_kept l c.args.self.now c.args.tag c.args.version c.self.inside.durable c.self.inside.known c.self.view_is c.self.invariant c.requires.seeded c.requires.mine c.requires.known)

pub invariant_of-self : goal.invariant_of-self
invariant_of-self c =
    let l : LogState = record { epoch = c.self.inside.id.epoch; index = c.self.inside.id.index; m = c.self.inside.shape.m; k = c.self.inside.shape.k; seed = c.self.inside.seed; pushes = c.self.inside.pushes; stopped = c.self.inside.stopped; popped = c.self.inside.popped } in
    subst (λ ps. IsKept (record l { popped = ps }) c.self.inside.durable c.self.inside.known) (sym c.in_err-raise.ensures.err) c.self.invariant
