use Rattle.std.proofs.Common.{◌≡◌, inl, inr, subst, ◌∙◌}
use Rattle.fr_segment.specs.Turns.{IsForeign}
use Rattle.fr_segment.proofs.RenewRun.{err_tells}
use Rattle.fr_segment.proofs.first.read_first.Goals as goal

pub returns-clause-foreign : goal.returns-clause-foreign
returns-clause-foreign g c told =
    let foreign : IsForeign c.args.identity.now c.deref.result.now = elim told [
      | inl is ↦ err_tells (IsForeign c.args.identity.now c.deref.result.now) c.first_in.result _ is c.first_in.ensures.foreign
      | inr is ↦ err_tells (IsForeign c.args.identity.now c.deref.result.now) c.first_in.result _ is c.first_in.ensures.foreign
    ] in
    subst (λ l. IsForeign c.args.identity.now l) (c.deref.ensures.value ∙ c.in-Ok.ensures.bytes) foreign
