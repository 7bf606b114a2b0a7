use Rattle.std.proofs.Common.{rules, ◌≡◌, ◌⊎◌, ◌+◌, ◌-◌, min, ◌<◌, ◌≤◌, ◌^◌, ◌++◌, ◌∷◌, [], false, length, drop, Some, refl, sym, ap, subst, ◌∙◌, arith}
use Rattle.fr_segment.specs.declared.health.Health.TheVariants.{Replacing}
use Rattle.fr_segment.specs.File.{body, behind, guard}
use Rattle.fr_segment.specs.Group.{records_of}
use Rattle.fr_segment.specs.Header.{header}
use Rattle.fr_segment.specs.Health.{has_failed, group_of, AreInTurn}
use Rattle.fr_segment.specs.Put.{IsRenewed}
use Rattle.fr_segment.specs.Room.{begun_size}
use Rattle.fr_segment.specs.Turns.{own_records}
use Rattle.fr_segment.specs.Way.{IsWay}
use Rattle.fr_segment.proofs.InTurn.{group_spelled, works_left, resting, resting_either, turned_way, renew_way}
use Rattle.fr_segment.proofs.Moments.{at_last}
use Rattle.fr_segment.proofs.NextTurn.{replaced, replace_failed}
use Rattle.fr_segment.proofs.PutLemmas.{content_left}
use Rattle.fr_segment.proofs.Replacing.{older_long, next_short, next_of, next_fits, next_used}
use Rattle.fr_segment.proofs.turns.file.SegmentsGroupFile.replace.Goals as goal

pub returns-then-not-has_next_room-clause-any_moment : goal.returns-then-not-has_next_room-clause-any_moment
returns-then-not-has_next_room-clause-any_moment g c never =
    let works : has_failed c.self.inside.health ≡ false = sym c.has_failed.ensures ∙ c.if-has_failed.false in
    subst (λ s. IsWay g.D.Device.Led g.D.Device.disk (λ rs. (rs ≡ own_records s.groups) ⊎ (rs ≡ records_of c.args.group.now)) s s) c.self.view_is (resting_either g.D.Device.Led g.D.Device.disk c.self.inside.current c.self.inside.other c.self.inside.number c.self.inside.identity c.self.inside.health c.self.invariant works (λ rs. rs ≡ records_of c.args.group.now))

pub returns-in-Err-clause-any_moment : goal.returns-in-Err-clause-any_moment
returns-in-Err-clause-any_moment g c never =
    let works : has_failed c.self.inside.health ≡ false = sym c.has_failed.ensures ∙ c.if-has_failed.false in
    subst (λ s. IsWay g.D.Device.Led g.D.Device.disk (λ rs. (rs ≡ own_records s.groups) ⊎ (rs ≡ records_of c.args.group.now)) s s) c.self.view_is (resting_either g.D.Device.Led g.D.Device.disk c.self.inside.current c.self.inside.other c.self.inside.number c.self.inside.identity c.self.inside.health c.self.invariant works (λ rs. rs ≡ records_of c.args.group.now))

pub turn-requires-clause-within : goal.turn-requires-clause-within
turn-requires-clause-within g c =
    let works : has_failed c.self.inside.health ≡ false = sym c.has_failed.ensures ∙ c.if-has_failed.false in
    older_long c.self.inside.number c.self.inside.identity (g.D.Device.disk c.self.inside.other).content ((works_left g.D.Device.Led g.D.Device.disk c.self.inside.current c.self.inside.other c.self.inside.number c.self.inside.identity c.self.inside.health c.self.invariant works).1 (g.D.Device.disk c.self.inside.other).content (content_left (g.D.Device.disk c.self.inside.other)))

pub turn-requires-clause-room : goal.turn-requires-clause-room
turn-requires-clause-room g c =
    let room = subst (λ s. length s.identity + 19 + length (body (records_of c.args.group.now)) + 24 ≤ min (g.D.Device.capacity_of s.other) (2 ^ 32 - 1)) (sym c.self.view_is) (c.has_next_room.ensures.value.0 c.if-not-has_next_room.false) in
    next_fits (c.self.inside.number + 1) (g.D.Device.capacity_of c.self.inside.other) c.self.inside.identity (records_of c.args.group.now) c.deref-2.result.now (c.deref-2.ensures.value ∙ (c.in-Ok.ensures.new ∙ ap (λ s. behind 0 (header (s.number + 1) s.identity ∷ records_of c.args.group.now) ++ guard 1) (sym c.self.view_is))) room

pub invariant_of-self : goal.invariant_of-self
invariant_of-self g c =
    let works : has_failed c.self.inside.health ≡ false = sym c.has_failed.ensures ∙ c.if-has_failed.false in
    let room = subst (λ s. length s.identity + 19 + length (body (records_of c.args.group.now)) + 24 ≤ min (g.D.Device.capacity_of s.other) (2 ^ 32 - 1)) (sym c.self.view_is) (c.has_next_room.ensures.value.0 c.if-not-has_next_room.false) in
    let short : length (body (header (c.self.inside.number + 1) c.self.inside.identity ∷ records_of c.args.group.now)) < 2 ^ 32 = next_short (c.self.inside.number + 1) (g.D.Device.capacity_of c.self.inside.other) c.self.inside.identity (records_of c.args.group.now) room in
    let small : c.self.inside.number + 1 < 2 ^ 64 = search rules in
    let next = next_of c.self.inside.number c.self.inside.identity (records_of c.args.group.now) small short in
    let header_is : c.deref.result.now ≡ header (c.self.inside.number + 1) c.self.inside.identity = c.deref.ensures.value ∙ (c.in-Ok.ensures.header ∙ ap (λ s. header (s.number + 1) s.identity) (sym c.self.view_is)) in
    let bytes : c.deref-2.result.now ≡ behind 0 (header (c.self.inside.number + 1) c.self.inside.identity ∷ records_of c.args.group.now) ++ guard 1 = c.deref-2.ensures.value ∙ (c.in-Ok.ensures.new ∙ ap (λ s. behind 0 (header (s.number + 1) s.identity ∷ records_of c.args.group.now) ++ guard 1) (sym c.self.view_is)) in
    let grown : c.turn.new.self.groups ≡ (header (c.self.inside.number + 1) c.self.inside.identity ∷ records_of c.args.group.now) ∷ [] = c.in-Ok-turn.ensures.ok ∙ ap (λ l. (l ∷ records_of c.args.group.now) ∷ []) header_is in
    subst (λ k. AreInTurn g.D.Device.disk c.turn.new.self c.turn.new.other k c.self.inside.identity c.self.inside.health) (sym (c.in-Ok.ensures.number ∙ ap (λ s. s.number + 1) (sym c.self.view_is)))
    (replaced g.D.Device.Led g.D.Device.disk c.self.inside.current c.self.inside.other c.self.inside.number c.self.inside.identity c.self.inside.health c.self.invariant works (header (c.self.inside.number + 1) c.self.inside.identity ∷ records_of c.args.group.now) next c.turn.new.self c.turn.new.other grown c.in-Ok-turn.ensures.works c.in-Ok-turn.ensures.turned c.in-Ok-turn.ensures.rests c.in-Ok-turn.ensures.kept)

pub returns-in-Ok-turn-clause-kept : goal.returns-in-Ok-turn-clause-kept
returns-in-Ok-turn-clause-kept g c =
    let works : has_failed c.self.inside.health ≡ false = sym c.has_failed.ensures ∙ c.if-has_failed.false in
    resting g.D.Device.Led g.D.Device.disk c.turn.new.self c.turn.new.other c.in-Ok.next.number c.self.inside.identity c.self.inside.health (invariant_of-self g c) works

pub returns-in-Ok-turn-clause-used : goal.returns-in-Ok-turn-clause-used
returns-in-Ok-turn-clause-used g c =
    let header_is : c.deref.result.now ≡ header (c.self.inside.number + 1) c.self.inside.identity = c.deref.ensures.value ∙ (c.in-Ok.ensures.header ∙ ap (λ s. header (s.number + 1) s.identity) (sym c.self.view_is)) in
    let grown : c.turn.new.self.groups ≡ (header (c.self.inside.number + 1) c.self.inside.identity ∷ records_of c.args.group.now) ∷ [] = c.in-Ok-turn.ensures.ok ∙ ap (λ l. (l ∷ records_of c.args.group.now) ∷ []) header_is in
    next_used (c.self.inside.number + 1) c.self.inside.identity (records_of c.args.group.now) c.turn.new.self.groups grown ∙ ap (λ s. begun_size (length s.identity + 19) (records_of c.args.group.now)) c.self.view_is

pub returns-in-Ok-turn-clause-any_moment : goal.returns-in-Ok-turn-clause-any_moment
returns-in-Ok-turn-clause-any_moment g c never =
    let works : has_failed c.self.inside.health ≡ false = sym c.has_failed.ensures ∙ c.if-has_failed.false in
    let room = subst (λ s. length s.identity + 19 + length (body (records_of c.args.group.now)) + 24 ≤ min (g.D.Device.capacity_of s.other) (2 ^ 32 - 1)) (sym c.self.view_is) (c.has_next_room.ensures.value.0 c.if-not-has_next_room.false) in
    let short : length (body (header (c.self.inside.number + 1) c.self.inside.identity ∷ records_of c.args.group.now)) < 2 ^ 32 = next_short (c.self.inside.number + 1) (g.D.Device.capacity_of c.self.inside.other) c.self.inside.identity (records_of c.args.group.now) room in
    let small : c.self.inside.number + 1 < 2 ^ 64 = search rules in
    let next = next_of c.self.inside.number c.self.inside.identity (records_of c.args.group.now) small short in
    let header_is : c.deref.result.now ≡ header (c.self.inside.number + 1) c.self.inside.identity = c.deref.ensures.value ∙ (c.in-Ok.ensures.header ∙ ap (λ s. header (s.number + 1) s.identity) (sym c.self.view_is)) in
    let bytes : c.deref-2.result.now ≡ behind 0 (header (c.self.inside.number + 1) c.self.inside.identity ∷ records_of c.args.group.now) ++ guard 1 = c.deref-2.ensures.value ∙ (c.in-Ok.ensures.new ∙ ap (λ s. behind 0 (header (s.number + 1) s.identity ∷ records_of c.args.group.now) ++ guard 1) (sym c.self.view_is)) in
    subst (λ s. IsWay g.D.Device.Led g.D.Device.disk (λ rs. (rs ≡ own_records s.groups) ⊎ (rs ≡ records_of c.args.group.now)) s (record { current = c.turn.new.self.device; other = c.turn.new.other; groups = c.turn.new.self.groups; number = c.in-Ok.next.number; identity = c.self.inside.identity; health = c.self.inside.health })) c.self.view_is
    (turned_way g.D.Device.Led g.D.Device.disk c.self.inside.current c.self.inside.other c.self.inside.number c.self.inside.identity c.self.inside.health c.self.invariant works (header (c.self.inside.number + 1) c.self.inside.identity ∷ records_of c.args.group.now) next c.deref-2.result.now bytes (record { current = c.turn.new.self.device; other = c.turn.new.other; groups = c.turn.new.self.groups; number = c.in-Ok.next.number; identity = c.self.inside.identity; health = c.self.inside.health }) refl c.in-Ok-turn.ensures.turned c.in-Ok-turn.ensures.begun)

pub invariant_of-self-in-Err-Device : goal.invariant_of-self-in-Err-Device
invariant_of-self-in-Err-Device g c =
    let works : has_failed c.self.inside.health ≡ false = sym c.has_failed.ensures ∙ c.if-has_failed.false in
    let room = subst (λ s. length s.identity + 19 + length (body (records_of c.args.group.now)) + 24 ≤ min (g.D.Device.capacity_of s.other) (2 ^ 32 - 1)) (sym c.self.view_is) (c.has_next_room.ensures.value.0 c.if-not-has_next_room.false) in
    let short : length (body (header (c.self.inside.number + 1) c.self.inside.identity ∷ records_of c.args.group.now)) < 2 ^ 32 = next_short (c.self.inside.number + 1) (g.D.Device.capacity_of c.self.inside.other) c.self.inside.identity (records_of c.args.group.now) room in
    let small : c.self.inside.number + 1 < 2 ^ 64 = search rules in
    let next = next_of c.self.inside.number c.self.inside.identity (records_of c.args.group.now) small short in
    let header_is : c.deref.result.now ≡ header (c.self.inside.number + 1) c.self.inside.identity = c.deref.ensures.value ∙ (c.in-Ok.ensures.header ∙ ap (λ s. header (s.number + 1) s.identity) (sym c.self.view_is)) in
    let bytes : c.deref-2.result.now ≡ behind 0 (header (c.self.inside.number + 1) c.self.inside.identity ∷ records_of c.args.group.now) ++ guard 1 = c.deref-2.ensures.value ∙ (c.in-Ok.ensures.new ∙ ap (λ s. behind 0 (header (s.number + 1) s.identity ∷ records_of c.args.group.now) ++ guard 1) (sym c.self.view_is)) in
    let put : group_of c.of.result.value.items ≡ (header (c.self.inside.number + 1) c.self.inside.identity ∷ records_of c.args.group.now) = ap (λ v. group_of v.items) c.of.ensures ∙ group_spelled 0 (header (c.self.inside.number + 1) c.self.inside.identity ∷ records_of c.args.group.now) c.in-Ok.next.new.items short (c.in-Ok.ensures.new ∙ ap (λ s. behind 0 (header (s.number + 1) s.identity ∷ records_of c.args.group.now) ++ guard 1) (sym c.self.view_is)) in
    subst (λ s. AreInTurn g.D.Device.disk s c.turn.new.other c.self.inside.number c.self.inside.identity (Replacing c.of.result)) (sym c.in-Err-Device.ensures.same)
    (replace_failed g.D.Device.Led g.D.Device.disk c.self.inside.current c.self.inside.other c.self.inside.number c.self.inside.identity c.self.inside.health c.self.invariant works (header (c.self.inside.number + 1) c.self.inside.identity ∷ records_of c.args.group.now) next (Replacing c.of.result) refl put c.deref-2.result.now bytes c.turn.new.other
    (at_last g.D.Device.Led g.D.Device.disk (IsRenewed (g.D.Device.disk c.self.inside.other).content c.deref-2.result.now) c.self.inside.other c.turn.new.other c.in-Err-Device.ensures.broken_off))

pub returns-in-Err-Device-clause-owes : goal.returns-in-Err-Device-clause-owes
returns-in-Err-Device-clause-owes g c never =
    let room = subst (λ s. length s.identity + 19 + length (body (records_of c.args.group.now)) + 24 ≤ min (g.D.Device.capacity_of s.other) (2 ^ 32 - 1)) (sym c.self.view_is) (c.has_next_room.ensures.value.0 c.if-not-has_next_room.false) in
    let short : length (body (header (c.self.inside.number + 1) c.self.inside.identity ∷ records_of c.args.group.now)) < 2 ^ 32 = next_short (c.self.inside.number + 1) (g.D.Device.capacity_of c.self.inside.other) c.self.inside.identity (records_of c.args.group.now) room in
    let put : group_of c.of.result.value.items ≡ (header (c.self.inside.number + 1) c.self.inside.identity ∷ records_of c.args.group.now) = ap (λ v. group_of v.items) c.of.ensures ∙ group_spelled 0 (header (c.self.inside.number + 1) c.self.inside.identity ∷ records_of c.args.group.now) c.in-Ok.next.new.items short (c.in-Ok.ensures.new ∙ ap (λ s. behind 0 (header (s.number + 1) s.identity ∷ records_of c.args.group.now) ++ guard 1) (sym c.self.view_is)) in
    ap (λ x. Some (drop 1 x)) put

pub returns-in-Err-Device-clause-any_moment : goal.returns-in-Err-Device-clause-any_moment
returns-in-Err-Device-clause-any_moment g c never =
    let works : has_failed c.self.inside.health ≡ false = sym c.has_failed.ensures ∙ c.if-has_failed.false in
    let room = subst (λ s. length s.identity + 19 + length (body (records_of c.args.group.now)) + 24 ≤ min (g.D.Device.capacity_of s.other) (2 ^ 32 - 1)) (sym c.self.view_is) (c.has_next_room.ensures.value.0 c.if-not-has_next_room.false) in
    let short : length (body (header (c.self.inside.number + 1) c.self.inside.identity ∷ records_of c.args.group.now)) < 2 ^ 32 = next_short (c.self.inside.number + 1) (g.D.Device.capacity_of c.self.inside.other) c.self.inside.identity (records_of c.args.group.now) room in
    let small : c.self.inside.number + 1 < 2 ^ 64 = search rules in
    let next = next_of c.self.inside.number c.self.inside.identity (records_of c.args.group.now) small short in
    let header_is : c.deref.result.now ≡ header (c.self.inside.number + 1) c.self.inside.identity = c.deref.ensures.value ∙ (c.in-Ok.ensures.header ∙ ap (λ s. header (s.number + 1) s.identity) (sym c.self.view_is)) in
    let bytes : c.deref-2.result.now ≡ behind 0 (header (c.self.inside.number + 1) c.self.inside.identity ∷ records_of c.args.group.now) ++ guard 1 = c.deref-2.ensures.value ∙ (c.in-Ok.ensures.new ∙ ap (λ s. behind 0 (header (s.number + 1) s.identity ∷ records_of c.args.group.now) ++ guard 1) (sym c.self.view_is)) in
    subst (λ s. IsWay g.D.Device.Led g.D.Device.disk (λ rs. (rs ≡ own_records s.groups) ⊎ (rs ≡ records_of c.args.group.now)) s (record { current = c.turn.new.self.device; other = c.turn.new.other; groups = c.turn.new.self.groups; number = c.self.inside.number; identity = c.self.inside.identity; health = Replacing c.of.result })) c.self.view_is
    (renew_way g.D.Device.Led g.D.Device.disk c.self.inside.current c.self.inside.other c.self.inside.number c.self.inside.identity c.self.inside.health c.self.invariant works (header (c.self.inside.number + 1) c.self.inside.identity ∷ records_of c.args.group.now) next c.deref-2.result.now bytes (record { current = c.turn.new.self.device; other = c.turn.new.other; groups = c.turn.new.self.groups; number = c.self.inside.number; identity = c.self.inside.identity; health = Replacing c.of.result }) refl (ap (λ s. s.device) c.in-Err-Device.ensures.same) c.in-Err-Device.ensures.broken_off)

pub returns-in-Err-Memory-clause-any_moment : goal.returns-in-Err-Memory-clause-any_moment
returns-in-Err-Memory-clause-any_moment g c never =
    let works : has_failed c.self.inside.health ≡ false = sym c.has_failed.ensures ∙ c.if-has_failed.false in
    let room = subst (λ s. length s.identity + 19 + length (body (records_of c.args.group.now)) + 24 ≤ min (g.D.Device.capacity_of s.other) (2 ^ 32 - 1)) (sym c.self.view_is) (c.has_next_room.ensures.value.0 c.if-not-has_next_room.false) in
    let short : length (body (header (c.self.inside.number + 1) c.self.inside.identity ∷ records_of c.args.group.now)) < 2 ^ 32 = next_short (c.self.inside.number + 1) (g.D.Device.capacity_of c.self.inside.other) c.self.inside.identity (records_of c.args.group.now) room in
    let small : c.self.inside.number + 1 < 2 ^ 64 = search rules in
    let next = next_of c.self.inside.number c.self.inside.identity (records_of c.args.group.now) small short in
    let header_is : c.deref.result.now ≡ header (c.self.inside.number + 1) c.self.inside.identity = c.deref.ensures.value ∙ (c.in-Ok.ensures.header ∙ ap (λ s. header (s.number + 1) s.identity) (sym c.self.view_is)) in
    let bytes : c.deref-2.result.now ≡ behind 0 (header (c.self.inside.number + 1) c.self.inside.identity ∷ records_of c.args.group.now) ++ guard 1 = c.deref-2.ensures.value ∙ (c.in-Ok.ensures.new ∙ ap (λ s. behind 0 (header (s.number + 1) s.identity ∷ records_of c.args.group.now) ++ guard 1) (sym c.self.view_is)) in
    subst (λ s. IsWay g.D.Device.Led g.D.Device.disk (λ rs. (rs ≡ own_records s.groups) ⊎ (rs ≡ records_of c.args.group.now)) s (record { current = c.turn.new.self.device; other = c.turn.new.other; groups = c.turn.new.self.groups; number = c.self.inside.number; identity = c.self.inside.identity; health = c.self.inside.health })) c.self.view_is
    (renew_way g.D.Device.Led g.D.Device.disk c.self.inside.current c.self.inside.other c.self.inside.number c.self.inside.identity c.self.inside.health c.self.invariant works (header (c.self.inside.number + 1) c.self.inside.identity ∷ records_of c.args.group.now) next c.deref-2.result.now bytes (record { current = c.turn.new.self.device; other = c.turn.new.other; groups = c.turn.new.self.groups; number = c.self.inside.number; identity = c.self.inside.identity; health = c.self.inside.health }) refl (ap (λ s. s.device) c.in-Err-Memory.ensures.same) c.in-Err-Memory.ensures.broken_off)

pub returns-in-Ok-turn-clause-no_failure : goal.returns-in-Ok-turn-clause-no_failure
returns-in-Ok-turn-clause-no_failure g c =
    let new = c.in-Ok-turn.ensures.no_failure in
    let turned = ap (λ x. g.D.Device.failures_of x) c.in-Ok-turn.ensures.turned in
    let one = ap (λ s. g.D.Device.failures_of s.current) c.self.view_is in
    let two = ap (λ s. g.D.Device.failures_of s.other) c.self.view_is in
    omega (arith, new, turned, one, two)
