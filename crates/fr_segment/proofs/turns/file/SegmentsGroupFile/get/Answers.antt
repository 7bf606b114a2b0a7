use Rattle.std.proofs.Common.{◌≡◌, ◌≤◌, false, length, Err, refl, sym, ap, subst, ◌∙◌, arith}
use Rattle.fr_record.specs.State.{record_at}
use Rattle.fr_segment.specs.declared.health.Health.TheVariants.{Failed}
use Rattle.fr_segment.specs.File.{records_of_all}
use Rattle.fr_segment.specs.Health.{has_failed, AreInTurn}
use Rattle.fr_segment.specs.Turns.{own_records}
use Rattle.fr_segment.specs.Way.{IsWay}
use Rattle.fr_segment.proofs.Crash.{stands_leaves}
use Rattle.fr_segment.proofs.InTurn.{works_owe, resting, read_way}
use Rattle.fr_segment.proofs.NextTurn.{read_on, read_failed}
use Rattle.fr_segment.proofs.OwnRecords.{record_behind, own_at, failed_first, still_flag, kept_flag}
use Rattle.fr_segment.proofs.TurnsLemmas.{own_long}
use Rattle.fr_segment.proofs.turns.file.SegmentsGroupFile.get.Goals as goal

pub overflow_sub-len : goal.overflow_sub-len
overflow_sub-len g c =
    let long = own_long c.self.inside.number c.self.inside.identity c.self.inside.current.groups c.self.invariant.headed in
    omega (arith, long, c.len.ensures.value)

pub returns-then-i-len-clause-value : goal.returns-then-i-len-clause-value
returns-then-i-len-clause-value g c =
    let long = own_long c.self.inside.number c.self.inside.identity c.self.inside.current.groups c.self.invariant.headed in
    let past : length (own_records c.self.inside.current.groups) ≤ c.args.i = omega (arith, long, c.len.ensures.value) in
    sym (ap (λ s. record_at (own_records s.groups) c.args.i) (sym c.self.view_is) ∙ record_behind (own_records c.self.inside.current.groups) c.args.i past)

pub returns-then-i-len-clause-any_moment : goal.returns-then-i-len-clause-any_moment
returns-then-i-len-clause-any_moment g c never =
    let works : has_failed c.self.inside.health ≡ false = sym c.has_failed.ensures ∙ c.if-has_failed.false in
    subst (λ s. IsWay g.D.Device.Led g.D.Device.disk (λ rs. rs ≡ own_records s.groups) s s) c.self.view_is (resting g.D.Device.Led g.D.Device.disk c.self.inside.current c.self.inside.other c.self.inside.number c.self.inside.identity c.self.inside.health c.self.invariant works)

pub invariant_of-self : goal.invariant_of-self
invariant_of-self g c =
    read_on g.D.Device.Led g.D.Device.disk c.self.inside.current c.self.inside.other c.self.inside.number c.self.inside.identity c.self.inside.health c.self.invariant c.get.new.self c.in-Ok.ensures.same (λ left may. stands_leaves (g.D.Device.disk c.self.inside.current.device) (g.D.Device.disk c.get.new.self.device) left c.get.ensures.stands may) c.self.inside.other (λ left may. may) (still_flag c.get.new.self.is_failed c.self.inside.current.is_failed c.in-Ok.ensures.fails) (λ durable. durable)

pub invariant_of-self-in-Err-Device : goal.invariant_of-self-in-Err-Device
invariant_of-self-in-Err-Device g c =
    let works : has_failed c.self.inside.health ≡ false = sym c.has_failed.ensures ∙ c.if-has_failed.false in
    subst (λ h. AreInTurn g.D.Device.disk c.get.new.self c.self.inside.other c.self.inside.number c.self.inside.identity h) (failed_first c.self.inside.health works)
    (read_failed g.D.Device.Led g.D.Device.disk c.self.inside.current c.self.inside.other c.self.inside.number c.self.inside.identity c.self.inside.health c.self.invariant c.get.new.self c.get.ensures.same (λ left may. stands_leaves (g.D.Device.disk c.self.inside.current.device) (g.D.Device.disk c.get.new.self.device) left c.get.ensures.stands may) c.self.inside.other (λ left may. may))

pub invariant_of-self-in-Err-Memory : goal.invariant_of-self-in-Err-Memory
invariant_of-self-in-Err-Memory g c =
    read_on g.D.Device.Led g.D.Device.disk c.self.inside.current c.self.inside.other c.self.inside.number c.self.inside.identity c.self.inside.health c.self.invariant c.get.new.self c.get.ensures.same (λ left may. stands_leaves (g.D.Device.disk c.self.inside.current.device) (g.D.Device.disk c.get.new.self.device) left c.get.ensures.stands may) c.self.inside.other (λ left may. may) (kept_flag c.get.new.self.is_failed c.self.inside.current.is_failed c.in-Err-Memory.field-0 c.in-Err-Memory.field-0-is c.in-Err-Memory.ensures.fails) (λ durable. durable)

pub unreachable-requires-in-Err-Failed : goal.unreachable-requires-in-Err-Failed
unreachable-requires-in-Err-Failed g c =
    let works : has_failed c.self.inside.health ≡ false = sym c.has_failed.ensures ∙ c.if-has_failed.false in
    let flag : c.self.inside.current.is_failed ≡ false = c.self.invariant.works works in
    let told = c.get.ensures.failed.0 (c.in-Err-Failed.is ∙ ap (λ f. Err f) c.in-Err-Failed.field-0-is) in
    absurd (cc (flag, told))

pub returns-in-Ok-clause-value : goal.returns-in-Ok-clause-value
returns-in-Ok-clause-value g c =
    c.in-Ok.ensures.value ∙ own_at (records_of_all c.self.inside.current.groups) c.args.i ∙ ap (λ s. record_at (own_records s.groups) c.args.i) c.self.view_is

pub returns-in-Ok-clause-any_moment : goal.returns-in-Ok-clause-any_moment
returns-in-Ok-clause-any_moment g c never =
    let works : has_failed c.self.inside.health ≡ false = sym c.has_failed.ensures ∙ c.if-has_failed.false in
    subst (λ s. IsWay g.D.Device.Led g.D.Device.disk (λ rs. rs ≡ own_records s.groups) s (record { current = c.get.new.self.device; other = c.self.inside.other; groups = c.get.new.self.groups; number = c.self.inside.number; identity = c.self.inside.identity; health = c.self.inside.health })) c.self.view_is
    (read_way g.D.Device.Led g.D.Device.disk c.self.inside.current c.self.inside.other c.self.inside.number c.self.inside.identity c.self.inside.health c.self.invariant works (record { current = c.get.new.self.device; other = c.self.inside.other; groups = c.get.new.self.groups; number = c.self.inside.number; identity = c.self.inside.identity; health = c.self.inside.health }) refl refl c.get.ensures.any_moment)

pub returns-in-Err-Device-clause-any_moment : goal.returns-in-Err-Device-clause-any_moment
returns-in-Err-Device-clause-any_moment g c never =
    let works : has_failed c.self.inside.health ≡ false = sym c.has_failed.ensures ∙ c.if-has_failed.false in
    subst (λ s. IsWay g.D.Device.Led g.D.Device.disk (λ rs. rs ≡ own_records s.groups) s (record { current = c.get.new.self.device; other = c.self.inside.other; groups = c.get.new.self.groups; number = c.self.inside.number; identity = c.self.inside.identity; health = Failed })) c.self.view_is
    (read_way g.D.Device.Led g.D.Device.disk c.self.inside.current c.self.inside.other c.self.inside.number c.self.inside.identity c.self.inside.health c.self.invariant works (record { current = c.get.new.self.device; other = c.self.inside.other; groups = c.get.new.self.groups; number = c.self.inside.number; identity = c.self.inside.identity; health = Failed }) refl refl c.get.ensures.any_moment)

pub returns-in-Err-Memory-clause-any_moment : goal.returns-in-Err-Memory-clause-any_moment
returns-in-Err-Memory-clause-any_moment g c never =
    let works : has_failed c.self.inside.health ≡ false = sym c.has_failed.ensures ∙ c.if-has_failed.false in
    subst (λ s. IsWay g.D.Device.Led g.D.Device.disk (λ rs. rs ≡ own_records s.groups) s (record { current = c.get.new.self.device; other = c.self.inside.other; groups = c.get.new.self.groups; number = c.self.inside.number; identity = c.self.inside.identity; health = c.self.inside.health })) c.self.view_is
    (read_way g.D.Device.Led g.D.Device.disk c.self.inside.current c.self.inside.other c.self.inside.number c.self.inside.identity c.self.inside.health c.self.invariant works (record { current = c.get.new.self.device; other = c.self.inside.other; groups = c.get.new.self.groups; number = c.self.inside.number; identity = c.self.inside.identity; health = c.self.inside.health }) refl refl c.get.ensures.any_moment)

pub returns-in-Err-Device-clause-owes : goal.returns-in-Err-Device-clause-owes
returns-in-Err-Device-clause-owes g c =
    let works : has_failed c.self.inside.health ≡ false = sym c.has_failed.ensures ∙ c.if-has_failed.false in
    let now : has_failed c.args.self.now.health ≡ false = ap (λ s. has_failed s.health) (sym c.self.view_is) ∙ works in
    sym (works_owe (own_records c.args.self.now.groups) c.args.self.now.health now)
