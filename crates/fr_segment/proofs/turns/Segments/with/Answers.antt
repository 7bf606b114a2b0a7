use Rattle.std.proofs.Common.{refl, ◌∙◌, ap, Err}
use Rattle.fr_segment.specs.declared.health.Health.TheVariants.{Works}
use Rattle.fr_segment.proofs.InTurn.{resting}
use Rattle.fr_segment.proofs.Opened.{opened, pair_current}
use Rattle.fr_segment.proofs.TurnsLemmas.{first_stands}
use Rattle.fr_segment.proofs.turns.Segments.with.Goals as goal

pub invariant_of-result : goal.invariant_of-result
invariant_of-result g c = opened g.D.Device.disk c.in-Ok.current c.args.other c.args.number c.args.identity c.in-Ok.ensures.works c.in-Ok.ensures.kept c.requires.durable (g.D.Device.disk c.args.current).content c.requires.begins c.in-Ok.ensures.groups c.requires.older

pub returns-in-Ok-clause-records : goal.returns-in-Ok-clause-records
returns-in-Ok-clause-records g c =
    let it = invariant_of-result g c in
    first_stands c.args.number c.args.identity c.in-Ok.current.groups it.small it.headed (g.D.Device.disk c.args.current).content (g.D.Device.disk c.args.other).content c.in-Ok.ensures.groups c.requires.older

pub returns-in-Ok-clause-kept : goal.returns-in-Ok-clause-kept
returns-in-Ok-clause-kept g c = resting g.D.Device.Led g.D.Device.disk c.in-Ok.current c.args.other c.args.number c.args.identity Works (invariant_of-result g c) refl

pub returns-in-Err-Broken-clause-none : goal.returns-in-Err-Broken-clause-none
returns-in-Err-Broken-clause-none g c e records pair =
    let it = pair_current c.args.number c.args.identity records (g.D.Device.disk c.args.current).content (g.D.Device.disk c.args.other).content c.requires.begins c.requires.older pair in
    c.open.ensures.broken (c.in-Err-Broken.is ∙ ap (λ f. Err f) c.in-Err-Broken.field-0-is) it.0 it.1
