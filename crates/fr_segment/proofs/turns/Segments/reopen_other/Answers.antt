use Rattle.std.proofs.Common.{◌≡◌, ◌⊎◌, ◌<◌, [], true, Some, Err, refl, sym, ap, subst, ◌∙◌}
use Rattle.fr_record.specs.Disk.{IsDurable}
use Rattle.fr_segment.specs.declared.health.Health.TheVariants.{Works}
use Rattle.fr_segment.specs.File.{IsLeft}
use Rattle.fr_segment.specs.Health.{has_failed, owed_by}
use Rattle.fr_segment.specs.Turns.{BeginsWith, own_records}
use Rattle.fr_segment.specs.Way.{IsWay}
use Rattle.fr_segment.proofs.InTurn.{resting}
use Rattle.fr_segment.proofs.Moments.{at_last}
use Rattle.fr_segment.proofs.Reopening.{newer_now, other_flight, other_stands, over_refused_way, over_refused, over_way, over_owed, over}
use Rattle.fr_segment.proofs.turns.Segments.reopen_other.Goals as goal

pub invariant_of-self : goal.invariant_of-self
invariant_of-self g c =
    over g.D.Device.Led g.D.Device.disk c.self.inside.current c.self.inside.other c.self.inside.number c.self.inside.identity c.self.inside.health c.self.invariant c.args.number (subst (λ s. BeginsWith c.args.number s.identity (g.D.Device.disk s.other).content) (sym c.self.view_is) c.requires.newer) (subst (λ s. s.number < c.args.number) (sym c.self.view_is) c.requires.greater) c.take_over.new.self c.in-Ok.ensures.groups c.in-Ok.ensures.works c.in-Ok.ensures.kept c.take_over.new.other c.in-Ok.ensures.turned (subst (λ s. IsDurable (g.D.Device.disk s.current)) (sym c.self.view_is) c.requires.durable) (subst (λ s. BeginsWith s.number s.identity (g.D.Device.disk s.current).content) (sym c.self.view_is) c.requires.older)

pub invariant_of-self-in-Err-Device : goal.invariant_of-self-in-Err-Device
invariant_of-self-in-Err-Device g c =
    let newer = newer_now g.D.Device.Led g.D.Device.disk c.self.inside.current c.self.inside.other c.self.inside.number c.self.inside.identity c.self.inside.health c.self.invariant c.args.number (subst (λ s. BeginsWith c.args.number s.identity (g.D.Device.disk s.other).content) (sym c.self.view_is) c.requires.newer) (subst (λ s. s.number < c.args.number) (sym c.self.view_is) c.requires.greater) in
    over_refused g.D.Device.Led g.D.Device.disk c.self.inside.current c.self.inside.other c.self.inside.number c.self.inside.identity c.self.inside.health c.self.invariant c.args.number (subst (λ s. BeginsWith c.args.number s.identity (g.D.Device.disk s.other).content) (sym c.self.view_is) c.requires.newer) (subst (λ s. s.number < c.args.number) (sym c.self.view_is) c.requires.greater) c.take_over.new.self c.in-Err-Device.ensures.same c.take_over.new.other
    (at_last g.D.Device.Led g.D.Device.disk (IsLeft [] newer.g) c.self.inside.other c.take_over.new.other (c.in-Err-Device.ensures.broken_off [] newer.g newer.fits.short (other_flight g.D.Device.Led g.D.Device.disk c.self.inside.current c.self.inside.other c.self.inside.number c.self.inside.identity c.self.inside.health c.self.invariant c.args.number (subst (λ s. BeginsWith c.args.number s.identity (g.D.Device.disk s.other).content) (sym c.self.view_is) c.requires.newer) (subst (λ s. s.number < c.args.number) (sym c.self.view_is) c.requires.greater) (subst (λ s. IsDurable (g.D.Device.disk s.other)) (sym c.self.view_is) c.requires.durable_other))))

pub invariant_of-self-in-Err-Memory : goal.invariant_of-self-in-Err-Memory
invariant_of-self-in-Err-Memory g c =
    let newer = newer_now g.D.Device.Led g.D.Device.disk c.self.inside.current c.self.inside.other c.self.inside.number c.self.inside.identity c.self.inside.health c.self.invariant c.args.number (subst (λ s. BeginsWith c.args.number s.identity (g.D.Device.disk s.other).content) (sym c.self.view_is) c.requires.newer) (subst (λ s. s.number < c.args.number) (sym c.self.view_is) c.requires.greater) in
    over_refused g.D.Device.Led g.D.Device.disk c.self.inside.current c.self.inside.other c.self.inside.number c.self.inside.identity c.self.inside.health c.self.invariant c.args.number (subst (λ s. BeginsWith c.args.number s.identity (g.D.Device.disk s.other).content) (sym c.self.view_is) c.requires.newer) (subst (λ s. s.number < c.args.number) (sym c.self.view_is) c.requires.greater) c.take_over.new.self c.in-Err-Memory.ensures.same c.take_over.new.other
    (at_last g.D.Device.Led g.D.Device.disk (IsLeft [] newer.g) c.self.inside.other c.take_over.new.other (c.in-Err-Memory.ensures.broken_off [] newer.g newer.fits.short (other_flight g.D.Device.Led g.D.Device.disk c.self.inside.current c.self.inside.other c.self.inside.number c.self.inside.identity c.self.inside.health c.self.invariant c.args.number (subst (λ s. BeginsWith c.args.number s.identity (g.D.Device.disk s.other).content) (sym c.self.view_is) c.requires.newer) (subst (λ s. s.number < c.args.number) (sym c.self.view_is) c.requires.greater) (subst (λ s. IsDurable (g.D.Device.disk s.other)) (sym c.self.view_is) c.requires.durable_other))))

pub unreachable-requires-in-Err-Broken : goal.unreachable-requires-in-Err-Broken
unreachable-requires-in-Err-Broken g c =
    other_stands g.D.Device.Led g.D.Device.disk c.self.inside.current c.self.inside.other c.self.inside.number c.self.inside.identity c.self.inside.health c.self.invariant c.args.number (subst (λ s. BeginsWith c.args.number s.identity (g.D.Device.disk s.other).content) (sym c.self.view_is) c.requires.newer) (subst (λ s. s.number < c.args.number) (sym c.self.view_is) c.requires.greater) (c.take_over.ensures.broken (c.in-Err-Broken.is ∙ ap (λ f. Err f) c.in-Err-Broken.field-0-is))

pub returns-in-Ok-clause-left : goal.returns-in-Ok-clause-left
returns-in-Ok-clause-left g c =
    subst (λ s. owed_by (own_records s.groups) s.health ≡ Some (own_records c.take_over.new.self.groups)) c.self.view_is (over_owed g.D.Device.Led g.D.Device.disk c.self.inside.current c.self.inside.other c.self.inside.number c.self.inside.identity c.self.inside.health c.self.invariant c.args.number (subst (λ s. BeginsWith c.args.number s.identity (g.D.Device.disk s.other).content) (sym c.self.view_is) c.requires.newer) (subst (λ s. s.number < c.args.number) (sym c.self.view_is) c.requires.greater) c.take_over.new.self c.in-Ok.ensures.groups)

pub returns-in-Ok-clause-kept : goal.returns-in-Ok-clause-kept
returns-in-Ok-clause-kept g c =
    resting g.D.Device.Led g.D.Device.disk c.take_over.new.self c.take_over.new.other c.args.number c.self.inside.identity Works (invariant_of-self g c) refl

pub returns-in-Ok-clause-failed : goal.returns-in-Ok-clause-failed
returns-in-Ok-clause-failed g c =
    let newer = newer_now g.D.Device.Led g.D.Device.disk c.self.inside.current c.self.inside.other c.self.inside.number c.self.inside.identity c.self.inside.health c.self.invariant c.args.number (subst (λ s. BeginsWith c.args.number s.identity (g.D.Device.disk s.other).content) (sym c.self.view_is) c.requires.newer) (subst (λ s. s.number < c.args.number) (sym c.self.view_is) c.requires.greater) in
    subst (λ s. has_failed s.health ≡ true) c.self.view_is newer.failed

pub returns-in-Err-Device-clause-failed : goal.returns-in-Err-Device-clause-failed
returns-in-Err-Device-clause-failed g c =
    let newer = newer_now g.D.Device.Led g.D.Device.disk c.self.inside.current c.self.inside.other c.self.inside.number c.self.inside.identity c.self.inside.health c.self.invariant c.args.number (subst (λ s. BeginsWith c.args.number s.identity (g.D.Device.disk s.other).content) (sym c.self.view_is) c.requires.newer) (subst (λ s. s.number < c.args.number) (sym c.self.view_is) c.requires.greater) in
    subst (λ s. has_failed s.health ≡ true) c.self.view_is newer.failed

pub returns-in-Err-Memory-clause-failed : goal.returns-in-Err-Memory-clause-failed
returns-in-Err-Memory-clause-failed g c =
    let newer = newer_now g.D.Device.Led g.D.Device.disk c.self.inside.current c.self.inside.other c.self.inside.number c.self.inside.identity c.self.inside.health c.self.invariant c.args.number (subst (λ s. BeginsWith c.args.number s.identity (g.D.Device.disk s.other).content) (sym c.self.view_is) c.requires.newer) (subst (λ s. s.number < c.args.number) (sym c.self.view_is) c.requires.greater) in
    subst (λ s. has_failed s.health ≡ true) c.self.view_is newer.failed

pub returns-in-Ok-clause-any_moment : goal.returns-in-Ok-clause-any_moment
returns-in-Ok-clause-any_moment g c =
    let newer = newer_now g.D.Device.Led g.D.Device.disk c.self.inside.current c.self.inside.other c.self.inside.number c.self.inside.identity c.self.inside.health c.self.invariant c.args.number (subst (λ s. BeginsWith c.args.number s.identity (g.D.Device.disk s.other).content) (sym c.self.view_is) c.requires.newer) (subst (λ s. s.number < c.args.number) (sym c.self.view_is) c.requires.greater) in
    subst (λ s. IsWay g.D.Device.Led g.D.Device.disk (λ rs. (rs ≡ own_records s.groups) ⊎ (owed_by (own_records s.groups) s.health ≡ Some rs)) s (record { current = c.take_over.new.self.device; other = c.take_over.new.other; groups = c.take_over.new.self.groups; number = c.args.number; identity = c.self.inside.identity; health = Works })) c.self.view_is
    (over_way g.D.Device.Led g.D.Device.disk c.self.inside.current c.self.inside.other c.self.inside.number c.self.inside.identity c.self.inside.health c.self.invariant c.args.number (subst (λ s. BeginsWith c.args.number s.identity (g.D.Device.disk s.other).content) (sym c.self.view_is) c.requires.newer) (subst (λ s. s.number < c.args.number) (sym c.self.view_is) c.requires.greater) (record { current = c.take_over.new.self.device; other = c.take_over.new.other; groups = c.take_over.new.self.groups; number = c.args.number; identity = c.self.inside.identity; health = Works }) refl c.in-Ok.ensures.turned (c.in-Ok.ensures.opened [] newer.g newer.fits.short (other_flight g.D.Device.Led g.D.Device.disk c.self.inside.current c.self.inside.other c.self.inside.number c.self.inside.identity c.self.inside.health c.self.invariant c.args.number (subst (λ s. BeginsWith c.args.number s.identity (g.D.Device.disk s.other).content) (sym c.self.view_is) c.requires.newer) (subst (λ s. s.number < c.args.number) (sym c.self.view_is) c.requires.greater) (subst (λ s. IsDurable (g.D.Device.disk s.other)) (sym c.self.view_is) c.requires.durable_other))))

pub returns-in-Err-Device-clause-any_moment : goal.returns-in-Err-Device-clause-any_moment
returns-in-Err-Device-clause-any_moment g c =
    let newer = newer_now g.D.Device.Led g.D.Device.disk c.self.inside.current c.self.inside.other c.self.inside.number c.self.inside.identity c.self.inside.health c.self.invariant c.args.number (subst (λ s. BeginsWith c.args.number s.identity (g.D.Device.disk s.other).content) (sym c.self.view_is) c.requires.newer) (subst (λ s. s.number < c.args.number) (sym c.self.view_is) c.requires.greater) in
    subst (λ s. IsWay g.D.Device.Led g.D.Device.disk (λ rs. (rs ≡ own_records s.groups) ⊎ (owed_by (own_records s.groups) s.health ≡ Some rs)) s (record { current = c.take_over.new.self.device; other = c.take_over.new.other; groups = c.take_over.new.self.groups; number = c.self.inside.number; identity = c.self.inside.identity; health = c.self.inside.health })) c.self.view_is
    (over_refused_way g.D.Device.Led g.D.Device.disk c.self.inside.current c.self.inside.other c.self.inside.number c.self.inside.identity c.self.inside.health c.self.invariant c.args.number (subst (λ s. BeginsWith c.args.number s.identity (g.D.Device.disk s.other).content) (sym c.self.view_is) c.requires.newer) (subst (λ s. s.number < c.args.number) (sym c.self.view_is) c.requires.greater) (record { current = c.take_over.new.self.device; other = c.take_over.new.other; groups = c.take_over.new.self.groups; number = c.self.inside.number; identity = c.self.inside.identity; health = c.self.inside.health }) refl (ap (λ s. s.device) c.in-Err-Device.ensures.same) (c.in-Err-Device.ensures.broken_off [] newer.g newer.fits.short (other_flight g.D.Device.Led g.D.Device.disk c.self.inside.current c.self.inside.other c.self.inside.number c.self.inside.identity c.self.inside.health c.self.invariant c.args.number (subst (λ s. BeginsWith c.args.number s.identity (g.D.Device.disk s.other).content) (sym c.self.view_is) c.requires.newer) (subst (λ s. s.number < c.args.number) (sym c.self.view_is) c.requires.greater) (subst (λ s. IsDurable (g.D.Device.disk s.other)) (sym c.self.view_is) c.requires.durable_other))))

pub returns-in-Err-Memory-clause-any_moment : goal.returns-in-Err-Memory-clause-any_moment
returns-in-Err-Memory-clause-any_moment g c =
    let newer = newer_now g.D.Device.Led g.D.Device.disk c.self.inside.current c.self.inside.other c.self.inside.number c.self.inside.identity c.self.inside.health c.self.invariant c.args.number (subst (λ s. BeginsWith c.args.number s.identity (g.D.Device.disk s.other).content) (sym c.self.view_is) c.requires.newer) (subst (λ s. s.number < c.args.number) (sym c.self.view_is) c.requires.greater) in
    subst (λ s. IsWay g.D.Device.Led g.D.Device.disk (λ rs. (rs ≡ own_records s.groups) ⊎ (owed_by (own_records s.groups) s.health ≡ Some rs)) s (record { current = c.take_over.new.self.device; other = c.take_over.new.other; groups = c.take_over.new.self.groups; number = c.self.inside.number; identity = c.self.inside.identity; health = c.self.inside.health })) c.self.view_is
    (over_refused_way g.D.Device.Led g.D.Device.disk c.self.inside.current c.self.inside.other c.self.inside.number c.self.inside.identity c.self.inside.health c.self.invariant c.args.number (subst (λ s. BeginsWith c.args.number s.identity (g.D.Device.disk s.other).content) (sym c.self.view_is) c.requires.newer) (subst (λ s. s.number < c.args.number) (sym c.self.view_is) c.requires.greater) (record { current = c.take_over.new.self.device; other = c.take_over.new.other; groups = c.take_over.new.self.groups; number = c.self.inside.number; identity = c.self.inside.identity; health = c.self.inside.health }) refl (ap (λ s. s.device) c.in-Err-Memory.ensures.same) (c.in-Err-Memory.ensures.broken_off [] newer.g newer.fits.short (other_flight g.D.Device.Led g.D.Device.disk c.self.inside.current c.self.inside.other c.self.inside.number c.self.inside.identity c.self.inside.health c.self.invariant c.args.number (subst (λ s. BeginsWith c.args.number s.identity (g.D.Device.disk s.other).content) (sym c.self.view_is) c.requires.newer) (subst (λ s. s.number < c.args.number) (sym c.self.view_is) c.requires.greater) (subst (λ s. IsDurable (g.D.Device.disk s.other)) (sym c.self.view_is) c.requires.durable_other))))
