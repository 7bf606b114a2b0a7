use Rattle.std.proofs.Common.{rules, ◌≡◌, ◌⊎◌, ◌+◌, ◌<◌, ◌≤◌, ◌^◌, ◌++◌, ◌∷◌, [], List, ℕ, false, length, Some, refl, sym, ap, subst, ◌∙◌, arith}
use Rattle.fr_segment.specs.declared.health.Health.TheVariants.{Appending}
use Rattle.fr_segment.specs.File.{body, groups_from, IsLeft}
use Rattle.fr_segment.specs.Group.{records_of}
use Rattle.fr_segment.specs.Health.{has_failed, group_of}
use Rattle.fr_segment.specs.Turns.{own_records}
use Rattle.fr_segment.specs.Way.{IsWay}
use Rattle.fr_segment.proofs.InTurn.{group_spelled, some_size, some_there, resting, resting_either, append_way}
use Rattle.fr_segment.proofs.Moments.{at_last}
use Rattle.fr_segment.proofs.NextTurn.{now_short, appended, append_failed}
use Rattle.fr_segment.proofs.Replacing.{used_more}
use Rattle.fr_segment.proofs.TurnsLemmas.{own_more}
use Rattle.fr_segment.proofs.turns.file.SegmentsGroupFile.append_group.Goals as goal

pub returns-then-is_empty-clause-kept : goal.returns-then-is_empty-clause-kept
returns-then-is_empty-clause-kept g c =
    let works : has_failed c.self.inside.health ≡ false = sym c.has_failed.ensures ∙ c.if-has_failed.false in
    subst (λ s. IsWay g.D.Device.Led g.D.Device.disk (λ rs. rs ≡ own_records s.groups) s s) c.self.view_is (resting g.D.Device.Led g.D.Device.disk c.self.inside.current c.self.inside.other c.self.inside.number c.self.inside.identity c.self.inside.health c.self.invariant works)

pub returns-then-is_empty-clause-any_moment : goal.returns-then-is_empty-clause-any_moment
returns-then-is_empty-clause-any_moment g c never =
    let works : has_failed c.self.inside.health ≡ false = sym c.has_failed.ensures ∙ c.if-has_failed.false in
    subst (λ s. IsWay g.D.Device.Led g.D.Device.disk (λ rs. (rs ≡ own_records s.groups) ⊎ (rs ≡ own_records s.groups ++ records_of c.args.group.now)) s s) c.self.view_is
    (resting_either g.D.Device.Led g.D.Device.disk c.self.inside.current c.self.inside.other c.self.inside.number c.self.inside.identity c.self.inside.health c.self.invariant works (λ rs. rs ≡ own_records c.self.inside.current.groups ++ records_of c.args.group.now))

pub returns-then-not-has_room-clause-any_moment : goal.returns-then-not-has_room-clause-any_moment
returns-then-not-has_room-clause-any_moment g c never =
    let works : has_failed c.self.inside.health ≡ false = sym c.has_failed.ensures ∙ c.if-has_failed.false in
    subst (λ s. IsWay g.D.Device.Led g.D.Device.disk (λ rs. (rs ≡ own_records s.groups) ⊎ (rs ≡ own_records s.groups ++ records_of c.args.group.now)) s s) c.self.view_is
    (resting_either g.D.Device.Led g.D.Device.disk c.self.inside.current c.self.inside.other c.self.inside.number c.self.inside.identity c.self.inside.health c.self.invariant works (λ rs. rs ≡ own_records c.self.inside.current.groups ++ records_of c.args.group.now))

pub returns-in_err-new-clause-any_moment : goal.returns-in_err-new-clause-any_moment
returns-in_err-new-clause-any_moment g c never =
    let works : has_failed c.self.inside.health ≡ false = sym c.has_failed.ensures ∙ c.if-has_failed.false in
    subst (λ s. IsWay g.D.Device.Led g.D.Device.disk (λ rs. (rs ≡ own_records s.groups) ⊎ (rs ≡ own_records s.groups ++ records_of c.args.group.now)) s s) c.self.view_is
    (resting_either g.D.Device.Led g.D.Device.disk c.self.inside.current c.self.inside.other c.self.inside.number c.self.inside.identity c.self.inside.health c.self.invariant works (λ rs. rs ≡ own_records c.self.inside.current.groups ++ records_of c.args.group.now))

pub invariant_of-self : goal.invariant_of-self
invariant_of-self g c =
    let works : has_failed c.self.inside.health ≡ false = sym c.has_failed.ensures ∙ c.if-has_failed.false in
    appended g.D.Device.Led g.D.Device.disk c.self.inside.current c.self.inside.other c.self.inside.number c.self.inside.identity c.self.inside.health c.self.invariant works (records_of c.args.group.now) c.put_group.new.self c.in-Ok.ensures.ok c.in-Ok.ensures.fails c.in-Ok.ensures.kept

pub returns-in-Ok-clause-ok : goal.returns-in-Ok-clause-ok
returns-in-Ok-clause-ok g c =
    ap own_records c.in-Ok.ensures.ok ∙ own_more c.self.inside.number c.self.inside.identity c.self.inside.current.groups (records_of c.args.group.now) c.self.invariant.headed
    ∙ ap (λ s. own_records s.groups ++ records_of c.args.group.now) c.self.view_is

pub returns-in-Ok-clause-kept : goal.returns-in-Ok-clause-kept
returns-in-Ok-clause-kept g c =
    let works : has_failed c.self.inside.health ≡ false = sym c.has_failed.ensures ∙ c.if-has_failed.false in
    resting g.D.Device.Led g.D.Device.disk c.put_group.new.self c.self.inside.other c.self.inside.number c.self.inside.identity c.self.inside.health (invariant_of-self g c) works

pub returns-in-Ok-clause-used : goal.returns-in-Ok-clause-used
returns-in-Ok-clause-used g c =
    let present : c.args.group.now ≡ [] → ⊥ = search rules in
    let some : 0 < length c.args.group.now = some_there c.args.group.now present in
    let grown = ap (λ gs. length (groups_from 0 gs)) c.in-Ok.ensures.ok in
    let view = ap (λ s. length (groups_from 0 s.groups)) c.self.view_is in
    omega (arith, grown, view, used_more c.self.inside.current.groups (records_of c.args.group.now), some_size c.args.group.now some)

pub returns-in-Ok-clause-any_moment : goal.returns-in-Ok-clause-any_moment
returns-in-Ok-clause-any_moment g c never =
    let works : has_failed c.self.inside.health ≡ false = sym c.has_failed.ensures ∙ c.if-has_failed.false in
    let short : length (body (records_of c.args.group.now)) < 2 ^ 32 = let room = c.has_room.ensures.value.0 c.if-not-has_room.false in omega (arith, room) in
    subst (λ s. IsWay g.D.Device.Led g.D.Device.disk (λ rs. (rs ≡ own_records s.groups) ⊎ (rs ≡ own_records s.groups ++ records_of c.args.group.now)) s (record { current = c.put_group.new.self.device; other = c.self.inside.other; groups = c.put_group.new.self.groups; number = c.self.inside.number; identity = c.self.inside.identity; health = c.self.inside.health })) c.self.view_is
    (append_way g.D.Device.Led g.D.Device.disk c.self.inside.current c.self.inside.other c.self.inside.number c.self.inside.identity c.self.inside.health c.self.invariant works (records_of c.args.group.now) (now_short g.D.Device.Led g.D.Device.disk c.self.inside.current c.self.inside.other c.self.inside.number c.self.inside.identity c.self.inside.health c.self.invariant works (records_of c.args.group.now) short) (record { current = c.put_group.new.self.device; other = c.self.inside.other; groups = c.put_group.new.self.groups; number = c.self.inside.number; identity = c.self.inside.identity; health = c.self.inside.health }) refl refl c.put_group.ensures.any_moment)

pub returns-in-Err-Device-clause-any_moment : goal.returns-in-Err-Device-clause-any_moment
returns-in-Err-Device-clause-any_moment g c never =
    let works : has_failed c.self.inside.health ≡ false = sym c.has_failed.ensures ∙ c.if-has_failed.false in
    let short : length (body (records_of c.args.group.now)) < 2 ^ 32 = let room = c.has_room.ensures.value.0 c.if-not-has_room.false in omega (arith, room) in
    subst (λ s. IsWay g.D.Device.Led g.D.Device.disk (λ rs. (rs ≡ own_records s.groups) ⊎ (rs ≡ own_records s.groups ++ records_of c.args.group.now)) s (record { current = c.put_group.new.self.device; other = c.self.inside.other; groups = c.put_group.new.self.groups; number = c.self.inside.number; identity = c.self.inside.identity; health = Appending c.of.result })) c.self.view_is
    (append_way g.D.Device.Led g.D.Device.disk c.self.inside.current c.self.inside.other c.self.inside.number c.self.inside.identity c.self.inside.health c.self.invariant works (records_of c.args.group.now) (now_short g.D.Device.Led g.D.Device.disk c.self.inside.current c.self.inside.other c.self.inside.number c.self.inside.identity c.self.inside.health c.self.invariant works (records_of c.args.group.now) short) (record { current = c.put_group.new.self.device; other = c.self.inside.other; groups = c.put_group.new.self.groups; number = c.self.inside.number; identity = c.self.inside.identity; health = Appending c.of.result }) refl refl c.put_group.ensures.any_moment)

pub returns-in-Err-Memory-clause-any_moment : goal.returns-in-Err-Memory-clause-any_moment
returns-in-Err-Memory-clause-any_moment g c never =
    let works : has_failed c.self.inside.health ≡ false = sym c.has_failed.ensures ∙ c.if-has_failed.false in
    let short : length (body (records_of c.args.group.now)) < 2 ^ 32 = let room = c.has_room.ensures.value.0 c.if-not-has_room.false in omega (arith, room) in
    subst (λ s. IsWay g.D.Device.Led g.D.Device.disk (λ rs. (rs ≡ own_records s.groups) ⊎ (rs ≡ own_records s.groups ++ records_of c.args.group.now)) s (record { current = c.put_group.new.self.device; other = c.self.inside.other; groups = c.put_group.new.self.groups; number = c.self.inside.number; identity = c.self.inside.identity; health = c.self.inside.health })) c.self.view_is
    (append_way g.D.Device.Led g.D.Device.disk c.self.inside.current c.self.inside.other c.self.inside.number c.self.inside.identity c.self.inside.health c.self.invariant works (records_of c.args.group.now) (now_short g.D.Device.Led g.D.Device.disk c.self.inside.current c.self.inside.other c.self.inside.number c.self.inside.identity c.self.inside.health c.self.invariant works (records_of c.args.group.now) short) (record { current = c.put_group.new.self.device; other = c.self.inside.other; groups = c.put_group.new.self.groups; number = c.self.inside.number; identity = c.self.inside.identity; health = c.self.inside.health }) refl refl c.put_group.ensures.any_moment)

pub invariant_of-self-in-Err-Device : goal.invariant_of-self-in-Err-Device
invariant_of-self-in-Err-Device g c =
    let works : has_failed c.self.inside.health ≡ false = sym c.has_failed.ensures ∙ c.if-has_failed.false in
    let short : length (body (records_of c.args.group.now)) < 2 ^ 32 = let room = c.has_room.ensures.value.0 c.if-not-has_room.false in omega (arith, room) in
    let put : group_of c.of.result.value.items ≡ records_of c.args.group.now = ap (λ v. group_of v.items) c.of.ensures ∙ group_spelled (length c.self.inside.current.groups) (records_of c.args.group.now) c.in_ok-new.new.items short c.in_ok-new.ensures in
    append_failed g.D.Device.Led g.D.Device.disk c.self.inside.current c.self.inside.other c.self.inside.number c.self.inside.identity c.self.inside.health c.self.invariant works (Appending c.of.result) refl (records_of c.args.group.now) short put c.put_group.new.self c.in-Err-Device.ensures.err
    (at_last g.D.Device.Led g.D.Device.disk (IsLeft c.self.inside.current.groups (records_of c.args.group.now)) c.self.inside.current.device c.put_group.new.self.device c.put_group.ensures.any_moment)

pub returns-in-Err-Device-clause-owes : goal.returns-in-Err-Device-clause-owes
returns-in-Err-Device-clause-owes g c never =
    let short : length (body (records_of c.args.group.now)) < 2 ^ 32 = let room = c.has_room.ensures.value.0 c.if-not-has_room.false in omega (arith, room) in
    let put : group_of c.of.result.value.items ≡ records_of c.args.group.now = ap (λ v. group_of v.items) c.of.ensures ∙ group_spelled (length c.self.inside.current.groups) (records_of c.args.group.now) c.in_ok-new.new.items short c.in_ok-new.ensures in
    let same : own_records c.put_group.new.self.groups ≡ own_records c.args.self.now.groups = ap own_records c.in-Err-Device.ensures.err ∙ ap (λ s. own_records s.groups) c.self.view_is in
    ap (λ rs. Some (rs ++ group_of c.of.result.value.items)) same ∙ ap (λ x. Some (own_records c.args.self.now.groups ++ x)) put
