use Rattle.std.proofs.Common.{◌≡◌, ◌⊎◌, Some, Err, refl, sym, ap, subst, ◌∙◌}
use Rattle.fr_record.specs.Disk.{IsDurable}
use Rattle.fr_segment.specs.declared.health.Health.TheVariants.{Works}
use Rattle.fr_segment.specs.Health.{owed_by, IsCurrentLeft, AreInTurn}
use Rattle.fr_segment.specs.Turns.{IsOlder, own_records}
use Rattle.fr_segment.specs.Way.{IsWay}
use Rattle.fr_segment.proofs.InTurn.{resting}
use Rattle.fr_segment.proofs.Moments.{at_last}
use Rattle.fr_segment.proofs.OwnRecords.{kept_flag}
use Rattle.fr_segment.proofs.Reopening.{reopened_run, reopened_way, current_stands, reopen_refused, reopen_failed, reopened_records, reopened}
use Rattle.fr_segment.proofs.turns.Segments.reopen_current.Goals as goal

pub invariant_of-self : goal.invariant_of-self
invariant_of-self g c =
    reopened g.D.Device.Led g.D.Device.disk c.self.inside.current c.self.inside.other c.self.inside.number c.self.inside.identity c.self.inside.health c.self.invariant (subst (λ s. IsOlder s.number s.identity (g.D.Device.disk s.other).content) (sym c.self.view_is) c.requires.older) (subst (λ s. IsDurable (g.D.Device.disk s.other)) (sym c.self.view_is) c.requires.durable) c.reopen.new.self c.in-Ok.ensures.groups c.in-Ok.ensures.works c.in-Ok.ensures.kept

pub invariant_of-self-in-Err-Device : goal.invariant_of-self-in-Err-Device
invariant_of-self-in-Err-Device g c =
    subst (λ h. AreInTurn g.D.Device.disk c.reopen.new.self c.self.inside.other c.self.inside.number c.self.inside.identity h) (sym c.fail.ensures) (reopen_failed g.D.Device.Led g.D.Device.disk c.self.inside.current c.self.inside.other c.self.inside.number c.self.inside.identity c.self.inside.health c.self.invariant c.reopen.new.self c.in-Err-Device.ensures.err (at_last g.D.Device.Led g.D.Device.disk (IsCurrentLeft c.self.inside.current.groups c.self.inside.health) c.self.inside.current.device c.reopen.new.self.device (reopened_run g.D.Device.Led g.D.Device.disk c.self.inside.current c.self.inside.other c.self.inside.number c.self.inside.identity c.self.inside.health c.self.invariant c.reopen.new.self.device c.reopen.ensures.any_moment c.reopen.ensures.at_rest)))

pub invariant_of-self-in-Err-Memory : goal.invariant_of-self-in-Err-Memory
invariant_of-self-in-Err-Memory g c =
    reopen_refused g.D.Device.Led g.D.Device.disk c.self.inside.current c.self.inside.other c.self.inside.number c.self.inside.identity c.self.inside.health c.self.invariant c.reopen.new.self c.in-Err-Memory.ensures.err (kept_flag c.reopen.new.self.is_failed c.self.inside.current.is_failed c.in-Err-Memory.field-0 c.in-Err-Memory.field-0-is c.in-Err-Memory.ensures.fails) (at_last g.D.Device.Led g.D.Device.disk (IsCurrentLeft c.self.inside.current.groups c.self.inside.health) c.self.inside.current.device c.reopen.new.self.device (reopened_run g.D.Device.Led g.D.Device.disk c.self.inside.current c.self.inside.other c.self.inside.number c.self.inside.identity c.self.inside.health c.self.invariant c.reopen.new.self.device c.reopen.ensures.any_moment c.reopen.ensures.at_rest))

pub unreachable-requires-in-Err-Broken : goal.unreachable-requires-in-Err-Broken
unreachable-requires-in-Err-Broken g c =
    current_stands g.D.Device.Led g.D.Device.disk c.self.inside.current c.self.inside.other c.self.inside.number c.self.inside.identity c.self.inside.health c.self.invariant (c.reopen.ensures.broken (c.in-Err-Broken.is ∙ ap (λ f. Err f) c.in-Err-Broken.field-0-is))

pub returns-in-Ok-clause-left : goal.returns-in-Ok-clause-left
returns-in-Ok-clause-left g c =
    subst (λ s. (own_records c.reopen.new.self.groups ≡ own_records s.groups) ⊎ (owed_by (own_records s.groups) s.health ≡ Some (own_records c.reopen.new.self.groups))) c.self.view_is
    (reopened_records g.D.Device.Led g.D.Device.disk c.self.inside.current c.self.inside.other c.self.inside.number c.self.inside.identity c.self.inside.health c.self.invariant (subst (λ s. IsOlder s.number s.identity (g.D.Device.disk s.other).content) (sym c.self.view_is) c.requires.older) (subst (λ s. IsDurable (g.D.Device.disk s.other)) (sym c.self.view_is) c.requires.durable) c.reopen.new.self c.in-Ok.ensures.groups)

pub returns-in-Ok-clause-kept : goal.returns-in-Ok-clause-kept
returns-in-Ok-clause-kept g c =
    resting g.D.Device.Led g.D.Device.disk c.reopen.new.self c.self.inside.other c.self.inside.number c.self.inside.identity Works (invariant_of-self g c) refl

pub returns-in-Ok-clause-any_moment : goal.returns-in-Ok-clause-any_moment
returns-in-Ok-clause-any_moment g c =
    subst (λ s. IsWay g.D.Device.Led g.D.Device.disk (λ rs. (rs ≡ own_records s.groups) ⊎ (owed_by (own_records s.groups) s.health ≡ Some rs)) s (record { current = c.reopen.new.self.device; other = c.self.inside.other; groups = c.reopen.new.self.groups; number = c.self.inside.number; identity = c.self.inside.identity; health = Works })) c.self.view_is
    (reopened_way g.D.Device.Led g.D.Device.disk c.self.inside.current c.self.inside.other c.self.inside.number c.self.inside.identity c.self.inside.health c.self.invariant (record { current = c.reopen.new.self.device; other = c.self.inside.other; groups = c.reopen.new.self.groups; number = c.self.inside.number; identity = c.self.inside.identity; health = Works }) refl refl (reopened_run g.D.Device.Led g.D.Device.disk c.self.inside.current c.self.inside.other c.self.inside.number c.self.inside.identity c.self.inside.health c.self.invariant c.reopen.new.self.device c.reopen.ensures.any_moment c.reopen.ensures.at_rest))

pub returns-in-Err-Device-clause-any_moment : goal.returns-in-Err-Device-clause-any_moment
returns-in-Err-Device-clause-any_moment g c =
    subst (λ s. IsWay g.D.Device.Led g.D.Device.disk (λ rs. (rs ≡ own_records s.groups) ⊎ (owed_by (own_records s.groups) s.health ≡ Some rs)) s (record { current = c.reopen.new.self.device; other = c.self.inside.other; groups = c.reopen.new.self.groups; number = c.self.inside.number; identity = c.self.inside.identity; health = c.fail.new.self })) c.self.view_is
    (reopened_way g.D.Device.Led g.D.Device.disk c.self.inside.current c.self.inside.other c.self.inside.number c.self.inside.identity c.self.inside.health c.self.invariant (record { current = c.reopen.new.self.device; other = c.self.inside.other; groups = c.reopen.new.self.groups; number = c.self.inside.number; identity = c.self.inside.identity; health = c.fail.new.self }) refl refl (reopened_run g.D.Device.Led g.D.Device.disk c.self.inside.current c.self.inside.other c.self.inside.number c.self.inside.identity c.self.inside.health c.self.invariant c.reopen.new.self.device c.reopen.ensures.any_moment c.reopen.ensures.at_rest))

pub returns-in-Err-Memory-clause-any_moment : goal.returns-in-Err-Memory-clause-any_moment
returns-in-Err-Memory-clause-any_moment g c =
    subst (λ s. IsWay g.D.Device.Led g.D.Device.disk (λ rs. (rs ≡ own_records s.groups) ⊎ (owed_by (own_records s.groups) s.health ≡ Some rs)) s (record { current = c.reopen.new.self.device; other = c.self.inside.other; groups = c.reopen.new.self.groups; number = c.self.inside.number; identity = c.self.inside.identity; health = c.self.inside.health })) c.self.view_is
    (reopened_way g.D.Device.Led g.D.Device.disk c.self.inside.current c.self.inside.other c.self.inside.number c.self.inside.identity c.self.inside.health c.self.invariant (record { current = c.reopen.new.self.device; other = c.self.inside.other; groups = c.reopen.new.self.groups; number = c.self.inside.number; identity = c.self.inside.identity; health = c.self.inside.health }) refl refl (reopened_run g.D.Device.Led g.D.Device.disk c.self.inside.current c.self.inside.other c.self.inside.number c.self.inside.identity c.self.inside.health c.self.invariant c.reopen.new.self.device c.reopen.ensures.any_moment c.reopen.ensures.at_rest))
