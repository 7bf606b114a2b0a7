use Rattle.std.proofs.Common.{◌≡◌, ◌⊎◌, inl, inr, ◌<◌, Ok, Err, Some, refl, sym, ap, subst, ◌∙◌, arith}
use Rattle.fr_record.specs.Disk.{MayLeave, Stands}
use Rattle.fr_record.specs.Moments.{Throughout}
use Rattle.fr_record.specs.declared.fault.RecordFault.TheVariants as record_fault
use Rattle.fr_segment.specs.declared.first.Turn.TheVariants.{Former, Latter}
use Rattle.fr_segment.specs.Health.{failed_now, owed_by}
use Rattle.fr_segment.specs.Turns.{BeginsWith, IsOlder, IsForeign, own_records}
use Rattle.fr_segment.specs.Way.{IsWay}
use Rattle.fr_segment.proofs.Crash.{stands_leaves}
use Rattle.fr_segment.proofs.FirstLemmas.{only_trouble, first_is}
use Rattle.fr_segment.proofs.NextTurn.{read_on}
use Rattle.fr_segment.proofs.Reopening.{now_begins, own_current, own_other, one_turn, turn_former, turn_latter, once_read, both_read}
use Rattle.fr_segment.proofs.RenewRun.{durable_stays}
use Rattle.fr_segment.proofs.turns.Segments.turn.Goals as goal

pub invariant_of-self : goal.invariant_of-self
invariant_of-self g c =
    read_on g.D.Device.Led g.D.Device.disk c.self.inside.current c.self.inside.other c.self.inside.number c.self.inside.identity c.self.inside.health c.self.invariant c.first.new.self c.first.ensures.groups (λ left may. stands_leaves (g.D.Device.disk c.self.inside.current.device) (g.D.Device.disk c.first.new.self.device) left c.first.ensures.stands may) c.self.inside.other (λ left may. may) c.first.ensures.is_failed (λ durable. durable)

pub refused-requires : goal.refused-requires
refused-requires g c =
    record { only = only_trouble c.in-Err.fault (λ e. c.first.ensures.never_unmade (c.in-Err.is ∙ ap (λ f. Err f) e)) (λ e. own_current g.D.Device.Led g.D.Device.disk c.self.inside.current c.self.inside.other c.self.inside.number c.self.inside.identity c.self.inside.health c.self.invariant (subst (λ i. IsForeign i (g.D.Device.disk c.self.inside.current.device).content) c.as_slice.ensures (c.first.ensures.foreign (inr (c.in-Err.is ∙ ap (λ f. Err f) e))))) (λ e. own_current g.D.Device.Led g.D.Device.disk c.self.inside.current c.self.inside.other c.self.inside.number c.self.inside.identity c.self.inside.health c.self.invariant (subst (λ i. IsForeign i (g.D.Device.disk c.self.inside.current.device).content) c.as_slice.ensures (c.first.ensures.foreign (inl (c.in-Err.is ∙ ap (λ f. Err f) e))))) }

pub invariant_of-self-in-Err-read_first : goal.invariant_of-self-in-Err-read_first
invariant_of-self-in-Err-read_first g c =
    read_on g.D.Device.Led g.D.Device.disk c.self.inside.current c.self.inside.other c.self.inside.number c.self.inside.identity c.self.inside.health c.self.invariant c.first.new.self c.first.ensures.groups (λ left may. stands_leaves (g.D.Device.disk c.self.inside.current.device) (g.D.Device.disk c.first.new.self.device) left c.first.ensures.stands may) c.read_first.new.device (λ left may. stands_leaves (g.D.Device.disk c.self.inside.other) (g.D.Device.disk c.read_first.new.device) left c.read_first.ensures.stands may) c.first.ensures.is_failed (λ durable. durable_stays (g.D.Device.disk c.self.inside.other) (g.D.Device.disk c.read_first.new.device) durable c.read_first.ensures.stands)

pub refused-requires-in-Err-read_first : goal.refused-requires-in-Err-read_first
refused-requires-in-Err-read_first g c =
    record { only = only_trouble c.in-Err-read_first.fault (λ e. c.read_first.ensures.never_unmade (c.in-Err-read_first.is ∙ ap (λ f. Err f) e)) (λ e. own_other g.D.Device.Led g.D.Device.disk c.self.inside.current c.self.inside.other c.self.inside.number c.self.inside.identity c.self.inside.health c.self.invariant (subst (λ i. IsForeign i (g.D.Device.disk c.self.inside.other).content) c.as_slice-2.ensures (c.read_first.ensures.foreign (inr (c.in-Err-read_first.is ∙ ap (λ f. Err f) e))))) (λ e. own_other g.D.Device.Led g.D.Device.disk c.self.inside.current c.self.inside.other c.self.inside.number c.self.inside.identity c.self.inside.health c.self.invariant (subst (λ i. IsForeign i (g.D.Device.disk c.self.inside.other).content) c.as_slice-2.ensures (c.read_first.ensures.foreign (inl (c.in-Err-read_first.is ∙ ap (λ f. Err f) e))))) }

pub returns-in-Err-clause-current : goal.returns-in-Err-clause-current
returns-in-Err-clause-current g c =
    subst (λ x. Stands (g.D.Device.disk c.args.self.now.current) (g.D.Device.disk x)) (sym (ap (λ s. s.current) c.refused.ensures.same)) (subst (λ s. Stands (g.D.Device.disk s.current) (g.D.Device.disk c.first.new.self.device)) c.self.view_is c.first.ensures.stands)

pub returns-in-Err-clause-other : goal.returns-in-Err-clause-other
returns-in-Err-clause-other g c =
    subst (λ x. Stands (g.D.Device.disk c.args.self.now.other) (g.D.Device.disk x)) (sym (ap (λ s. s.other) c.refused.ensures.same ∙ ap (λ s. s.other) c.self.view_is)) (record { same = refl; kept = λ i kept. kept; len = omega arith })

pub returns-in-Err-clause-any_moment : goal.returns-in-Err-clause-any_moment
returns-in-Err-clause-any_moment g c =
    subst (λ s. IsWay g.D.Device.Led g.D.Device.disk (λ rs. (rs ≡ own_records s.groups) ⊎ (owed_by (own_records s.groups) s.health ≡ Some rs)) s (c.refused.new.self)) c.self.view_is
    (once_read g.D.Device.Led g.D.Device.disk c.self.inside.current c.self.inside.other c.self.inside.number c.self.inside.identity c.self.inside.health c.self.invariant c.refused.new.self (ap (λ s. s.identity) c.refused.ensures.same) (ap (λ s. s.other) c.refused.ensures.same) (subst (λ x. Throughout g.D.Device.Led g.D.Device.disk (MayLeave (g.D.Device.disk c.self.inside.current.device)) c.self.inside.current.device x) (sym (ap (λ s. s.current) c.refused.ensures.same)) c.first.ensures.any_moment))

pub returns-in-Err-clause-groups : goal.returns-in-Err-clause-groups
returns-in-Err-clause-groups g c =
    ap (λ s. s.groups) c.refused.ensures.same ∙ c.first.ensures.groups ∙ ap (λ s. s.groups) c.self.view_is

pub returns-in-Err-clause-number : goal.returns-in-Err-clause-number
returns-in-Err-clause-number g c =
    ap (λ s. s.number) c.refused.ensures.same ∙ ap (λ s. s.number) c.self.view_is

pub returns-in-Err-clause-identity : goal.returns-in-Err-clause-identity
returns-in-Err-clause-identity g c =
    ap (λ s. s.identity) c.refused.ensures.same ∙ ap (λ s. s.identity) c.self.view_is

pub returns-in-Err-clause-health : goal.returns-in-Err-clause-health
returns-in-Err-clause-health g c other =
    c.refused.ensures.health (λ e. other (ap (λ f. Err f) e)) ∙ ap (λ s. s.health) c.self.view_is

pub returns-in-Err-clause-fails : goal.returns-in-Err-clause-fails
returns-in-Err-clause-fails g c e =
    let is : c.refused.result ≡ record_fault.Device = cc e in c.refused.ensures.fails is ∙ ap (λ s. failed_now s.health) c.self.view_is

pub returns-in-Err-clause-capacity : goal.returns-in-Err-clause-capacity
returns-in-Err-clause-capacity g c =
    (ap (λ s. g.D.Device.capacity_of s.current) c.refused.ensures.same ∙ c.first.ensures.capacity ∙ ap (λ s. g.D.Device.capacity_of s.current) c.self.view_is, ap (λ s. g.D.Device.capacity_of s.other) c.refused.ensures.same ∙ ap (λ s. g.D.Device.capacity_of s.other) c.self.view_is)

pub returns-in-Err-clause-device : goal.returns-in-Err-clause-device
returns-in-Err-clause-device g c e =
    let is : c.refused.result ≡ record_fault.Device = cc e in
    let fails = c.first.ensures.device (c.in-Err.is ∙ ap (λ f. Err f) (c.refused.ensures.device.0 is)) in
    let one = ap (λ s. g.D.Device.failures_of s.current) c.refused.ensures.same in
    let two = ap (λ s. g.D.Device.failures_of s.other) c.refused.ensures.same in
    let three = ap (λ s. g.D.Device.failures_of s.current) c.self.view_is in
    let four = ap (λ s. g.D.Device.failures_of s.other) c.self.view_is in
    omega (arith, fails, one, two, three, four)

pub returns-in-Err-read_first-clause-current : goal.returns-in-Err-read_first-clause-current
returns-in-Err-read_first-clause-current g c =
    subst (λ x. Stands (g.D.Device.disk c.args.self.now.current) (g.D.Device.disk x)) (sym (ap (λ s. s.current) c.refused-in-Err-read_first.ensures.same)) (subst (λ s. Stands (g.D.Device.disk s.current) (g.D.Device.disk c.first.new.self.device)) c.self.view_is c.first.ensures.stands)

pub returns-in-Err-read_first-clause-other : goal.returns-in-Err-read_first-clause-other
returns-in-Err-read_first-clause-other g c =
    subst (λ x. Stands (g.D.Device.disk c.args.self.now.other) (g.D.Device.disk x)) (sym (ap (λ s. s.other) c.refused-in-Err-read_first.ensures.same)) (subst (λ s. Stands (g.D.Device.disk s.other) (g.D.Device.disk c.read_first.new.device)) c.self.view_is c.read_first.ensures.stands)

pub returns-in-Err-read_first-clause-any_moment : goal.returns-in-Err-read_first-clause-any_moment
returns-in-Err-read_first-clause-any_moment g c =
    subst (λ s. IsWay g.D.Device.Led g.D.Device.disk (λ rs. (rs ≡ own_records s.groups) ⊎ (owed_by (own_records s.groups) s.health ≡ Some rs)) s (c.refused-in-Err-read_first.new.self)) c.self.view_is
    (both_read g.D.Device.Led g.D.Device.disk c.self.inside.current c.self.inside.other c.self.inside.number c.self.inside.identity c.self.inside.health c.self.invariant c.first.new.self.device c.first.ensures.any_moment c.first.ensures.stands c.refused-in-Err-read_first.new.self (ap (λ s. s.identity) c.refused-in-Err-read_first.ensures.same) (ap (λ s. s.current) c.refused-in-Err-read_first.ensures.same) (subst (λ x. Throughout g.D.Device.Led g.D.Device.disk (MayLeave (g.D.Device.disk c.self.inside.other)) c.self.inside.other x) (sym (ap (λ s. s.other) c.refused-in-Err-read_first.ensures.same)) c.read_first.ensures.any_moment))

pub returns-in-Err-read_first-clause-groups : goal.returns-in-Err-read_first-clause-groups
returns-in-Err-read_first-clause-groups g c =
    ap (λ s. s.groups) c.refused-in-Err-read_first.ensures.same ∙ c.first.ensures.groups ∙ ap (λ s. s.groups) c.self.view_is

pub returns-in-Err-read_first-clause-number : goal.returns-in-Err-read_first-clause-number
returns-in-Err-read_first-clause-number g c =
    ap (λ s. s.number) c.refused-in-Err-read_first.ensures.same ∙ ap (λ s. s.number) c.self.view_is

pub returns-in-Err-read_first-clause-identity : goal.returns-in-Err-read_first-clause-identity
returns-in-Err-read_first-clause-identity g c =
    ap (λ s. s.identity) c.refused-in-Err-read_first.ensures.same ∙ ap (λ s. s.identity) c.self.view_is

pub returns-in-Err-read_first-clause-health : goal.returns-in-Err-read_first-clause-health
returns-in-Err-read_first-clause-health g c other =
    c.refused-in-Err-read_first.ensures.health (λ e. other (ap (λ f. Err f) e)) ∙ ap (λ s. s.health) c.self.view_is

pub returns-in-Err-read_first-clause-fails : goal.returns-in-Err-read_first-clause-fails
returns-in-Err-read_first-clause-fails g c e =
    let is : c.refused-in-Err-read_first.result ≡ record_fault.Device = cc e in c.refused-in-Err-read_first.ensures.fails is ∙ ap (λ s. failed_now s.health) c.self.view_is

pub returns-in-Err-read_first-clause-capacity : goal.returns-in-Err-read_first-clause-capacity
returns-in-Err-read_first-clause-capacity g c =
    (ap (λ s. g.D.Device.capacity_of s.current) c.refused-in-Err-read_first.ensures.same ∙ c.first.ensures.capacity ∙ ap (λ s. g.D.Device.capacity_of s.current) c.self.view_is, ap (λ s. g.D.Device.capacity_of s.other) c.refused-in-Err-read_first.ensures.same ∙ c.read_first.ensures.capacity ∙ ap (λ s. g.D.Device.capacity_of s.other) c.self.view_is)

pub returns-in-Err-read_first-clause-device : goal.returns-in-Err-read_first-clause-device
returns-in-Err-read_first-clause-device g c e =
    let is : c.refused-in-Err-read_first.result ≡ record_fault.Device = cc e in
    let fails = c.read_first.ensures.device (c.in-Err-read_first.is ∙ ap (λ f. Err f) (c.refused-in-Err-read_first.ensures.device.0 is)) in
    let still = c.in-Ok.ensures.no_failure in
    let one = ap (λ s. g.D.Device.failures_of s.current) c.refused-in-Err-read_first.ensures.same in
    let two = ap (λ s. g.D.Device.failures_of s.other) c.refused-in-Err-read_first.ensures.same in
    let three = ap (λ s. g.D.Device.failures_of s.current) c.self.view_is in
    let four = ap (λ s. g.D.Device.failures_of s.other) c.self.view_is in
    omega (arith, fails, one, two, three, four, still)

pub unreachable-requires : goal.unreachable-requires
unreachable-requires g c =
    one_turn g.D.Device.Led g.D.Device.disk c.self.inside.current c.self.inside.other c.self.inside.number c.self.inside.identity c.self.inside.health c.self.invariant c.in-Ok.former (first_is c.self.inside.number c.self.inside.identity (g.D.Device.disk c.self.inside.current.device).content (now_begins g.D.Device.Led g.D.Device.disk c.self.inside.current c.self.inside.other c.self.inside.number c.self.inside.identity c.self.inside.health c.self.invariant) c.in-Ok.former (λ e. c.first.ensures.missing (c.in-Ok.is ∙ ap (λ f. Ok f) e)) (λ e. c.first.ensures.closed (c.in-Ok.is ∙ ap (λ f. Ok f) e)) (λ n e. subst (λ i. BeginsWith n i (g.D.Device.disk c.self.inside.current.device).content) c.as_slice.ensures (c.first.ensures.file n (c.in-Ok.is ∙ ap (λ f. Ok f) e)))) c.in-Ok-read_first.latter (λ e. c.read_first.ensures.missing (c.in-Ok-read_first.is ∙ ap (λ f. Ok f) e)) (λ e. c.read_first.ensures.closed (c.in-Ok-read_first.is ∙ ap (λ f. Ok f) e)) (λ n e. subst (λ i. BeginsWith n i (g.D.Device.disk c.self.inside.other).content) c.as_slice-2.ensures (c.read_first.ensures.file n (c.in-Ok-read_first.is ∙ ap (λ f. Ok f) e))) c.in-Err-turn_of.ensures.none

pub invariant_of-self-2 : goal.invariant_of-self-2
invariant_of-self-2 g c =
    read_on g.D.Device.Led g.D.Device.disk c.self.inside.current c.self.inside.other c.self.inside.number c.self.inside.identity c.self.inside.health c.self.invariant c.first.new.self c.first.ensures.groups (λ left may. stands_leaves (g.D.Device.disk c.self.inside.current.device) (g.D.Device.disk c.first.new.self.device) left c.first.ensures.stands may) c.read_first.new.device (λ left may. stands_leaves (g.D.Device.disk c.self.inside.other) (g.D.Device.disk c.read_first.new.device) left c.read_first.ensures.stands may) c.first.ensures.is_failed (λ durable. durable_stays (g.D.Device.disk c.self.inside.other) (g.D.Device.disk c.read_first.new.device) durable c.read_first.ensures.stands)

pub returns-clause-former : goal.returns-clause-former
returns-clause-former g c n e =
    let is : c.in-Ok-turn_of.turn ≡ Former n = cc e in
    subst (λ s. IsOlder s.number s.identity (g.D.Device.disk s.other).content) c.self.view_is
    (turn_former g.D.Device.Led g.D.Device.disk c.self.inside.current c.self.inside.other c.self.inside.number c.self.inside.identity c.self.inside.health c.self.invariant c.in-Ok.former (first_is c.self.inside.number c.self.inside.identity (g.D.Device.disk c.self.inside.current.device).content (now_begins g.D.Device.Led g.D.Device.disk c.self.inside.current c.self.inside.other c.self.inside.number c.self.inside.identity c.self.inside.health c.self.invariant) c.in-Ok.former (λ e. c.first.ensures.missing (c.in-Ok.is ∙ ap (λ f. Ok f) e)) (λ e. c.first.ensures.closed (c.in-Ok.is ∙ ap (λ f. Ok f) e)) (λ n e. subst (λ i. BeginsWith n i (g.D.Device.disk c.self.inside.current.device).content) c.as_slice.ensures (c.first.ensures.file n (c.in-Ok.is ∙ ap (λ f. Ok f) e)))) c.in-Ok-read_first.latter (λ e. c.read_first.ensures.missing (c.in-Ok-read_first.is ∙ ap (λ f. Ok f) e)) (λ e. c.read_first.ensures.closed (c.in-Ok-read_first.is ∙ ap (λ f. Ok f) e)) (λ n e. subst (λ i. BeginsWith n i (g.D.Device.disk c.self.inside.other).content) c.as_slice-2.ensures (c.read_first.ensures.file n (c.in-Ok-read_first.is ∙ ap (λ f. Ok f) e))) c.in-Ok-turn_of.turn c.in-Ok-turn_of.ensures.turn n is)

pub returns-clause-latter : goal.returns-clause-latter
returns-clause-latter g c n e =
    let is : c.in-Ok-turn_of.turn ≡ Latter n = cc e in
    subst (λ s. BeginsWith n s.identity (g.D.Device.disk s.other).content × (s.number < n) × BeginsWith s.number s.identity (g.D.Device.disk s.current).content) c.self.view_is
    (turn_latter g.D.Device.Led g.D.Device.disk c.self.inside.current c.self.inside.other c.self.inside.number c.self.inside.identity c.self.inside.health c.self.invariant c.in-Ok.former (first_is c.self.inside.number c.self.inside.identity (g.D.Device.disk c.self.inside.current.device).content (now_begins g.D.Device.Led g.D.Device.disk c.self.inside.current c.self.inside.other c.self.inside.number c.self.inside.identity c.self.inside.health c.self.invariant) c.in-Ok.former (λ e. c.first.ensures.missing (c.in-Ok.is ∙ ap (λ f. Ok f) e)) (λ e. c.first.ensures.closed (c.in-Ok.is ∙ ap (λ f. Ok f) e)) (λ n e. subst (λ i. BeginsWith n i (g.D.Device.disk c.self.inside.current.device).content) c.as_slice.ensures (c.first.ensures.file n (c.in-Ok.is ∙ ap (λ f. Ok f) e)))) c.in-Ok-read_first.latter (λ e. c.read_first.ensures.missing (c.in-Ok-read_first.is ∙ ap (λ f. Ok f) e)) (λ e. c.read_first.ensures.closed (c.in-Ok-read_first.is ∙ ap (λ f. Ok f) e)) (λ n e. subst (λ i. BeginsWith n i (g.D.Device.disk c.self.inside.other).content) c.as_slice-2.ensures (c.read_first.ensures.file n (c.in-Ok-read_first.is ∙ ap (λ f. Ok f) e))) c.in-Ok-turn_of.turn c.in-Ok-turn_of.ensures.turn n is)

pub returns-clause-current : goal.returns-clause-current
returns-clause-current g c =
    subst (λ s. Stands (g.D.Device.disk s.current) (g.D.Device.disk c.first.new.self.device)) c.self.view_is c.first.ensures.stands

pub returns-clause-other : goal.returns-clause-other
returns-clause-other g c =
    subst (λ s. Stands (g.D.Device.disk s.other) (g.D.Device.disk c.read_first.new.device)) c.self.view_is c.read_first.ensures.stands

pub returns-clause-any_moment : goal.returns-clause-any_moment
returns-clause-any_moment g c =
    subst (λ s. IsWay g.D.Device.Led g.D.Device.disk (λ rs. (rs ≡ own_records s.groups) ⊎ (owed_by (own_records s.groups) s.health ≡ Some rs)) s (record { current = c.first.new.self.device; other = c.read_first.new.device; groups = c.first.new.self.groups; number = c.self.inside.number; identity = c.self.inside.identity; health = c.self.inside.health })) c.self.view_is
    (both_read g.D.Device.Led g.D.Device.disk c.self.inside.current c.self.inside.other c.self.inside.number c.self.inside.identity c.self.inside.health c.self.invariant c.first.new.self.device c.first.ensures.any_moment c.first.ensures.stands (record { current = c.first.new.self.device; other = c.read_first.new.device; groups = c.first.new.self.groups; number = c.self.inside.number; identity = c.self.inside.identity; health = c.self.inside.health }) refl refl c.read_first.ensures.any_moment)
