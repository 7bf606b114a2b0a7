use Rattle.fr_epoch.specs.Hear.{after_hear}
use Rattle.fr_epoch.specs.Standing.{state_of}
use Rattle.fr_epoch.proofs.Kept.{kept_either}
use Rattle.fr_epoch.proofs.recoverer.Recoverer.hear.Goals as goal

pub invariant_of-self : goal.invariant_of-self
invariant_of-self c =
    let r = state_of c.self.inside.standing in
    kept_either c.hear.result r (state_of c.hear.new.self) (after_hear r c.args.from c.args.tell) c.hear.ensures.state c.hear.ensures.err c.self.invariant (c.kept_law.ensures.hear r c.args.from c.args.tell c.self.invariant)
