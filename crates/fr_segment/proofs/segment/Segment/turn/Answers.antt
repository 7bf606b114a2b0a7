use Rattle.std.proofs.Common.{◌≡◌, ◌+◌, ◌-◌, ◌++◌, [], ◌∷◌, List, ℕ, false, length, refl, sym, ap, subst, ◌∙◌, arith}
use Rattle.fr_segment.specs.declared.place.Place.{Place}
use Rattle.fr_segment.specs.File.{body}
use Rattle.fr_segment.specs.Group.{records_of, places_of}
use Rattle.fr_segment.specs.Table.{places, groups_in, IsFile, IsGuarded}
use Rattle.fr_segment.proofs.Grown.{kept}
use Rattle.fr_segment.proofs.RenewRun.{not_begun, while_closing, always_err}
use Rattle.fr_segment.proofs.Renewed.{length-spelled_group, renewed_groups, renewed_file, renewed_guarded}
use Rattle.fr_segment.proofs.segment.Segment.turn.Goals as goal

pub returns-in_err-push-clause-broken_off : goal.returns-in_err-push-clause-broken_off
returns-in_err-push-clause-broken_off g c =
    always_err _ c.from_residual.result
    (while_closing g.D.Device.Led g.D.Device.disk c.args.other.now c.args.new.now c.args.other.now (not_begun g.D.Device.Led g.D.Device.disk c.args.other.now c.requires.within c.requires.durable))

pub returns-in_err-reserve-clause-broken_off : goal.returns-in_err-reserve-clause-broken_off
returns-in_err-reserve-clause-broken_off g c =
    always_err _ c.from_residual-in_err-reserve.result
    (while_closing g.D.Device.Led g.D.Device.disk c.args.other.now c.args.new.now c.args.other.now (not_begun g.D.Device.Led g.D.Device.disk c.args.other.now c.requires.within c.requires.durable))

pub overflow_sub-self : goal.overflow_sub-self
overflow_sub-self g c =
    let e = ap length c.requires.bytes in
    omega (arith, e, length-spelled_group 0 (c.args.header.now ∷ records_of c.args.group.now))

pub invariant_of-self : goal.invariant_of-self
invariant_of-self g c =
    let group = c.args.header.now ∷ records_of c.args.group.now in
    let end = length c.args.new.now - 8 in
    let e = ap length c.requires.bytes in
    let end_is : length c.args.new.now - 8 ≡ 14 + length (body (c.args.header.now ∷ records_of c.args.group.now)) = omega (arith, e, length-spelled_group 0 (c.args.header.now ∷ records_of c.args.group.now)) in
    let items : c.add_places.new.table.items ≡ places 10 (c.args.header.now ∷ records_of c.args.group.now) =
    c.add_places.ensures ∙ ap (λ (t : List Place). t ++ places_of (14 + length c.args.header.now) c.args.group.now) (c.reserve.ensures.items ∙ c.in_ok-push.ensures.items ∙ ap (λ (t : List Place). t ++ record { at = 14; len = length c.args.header.now } ∷ []) c.new-table.ensures.items) in
    let device = c.renew.new.device in
    subst (λ d. IsFile (g.D.Device.disk d) c.add_places.new.table.items (length c.args.new.now - 8) false (groups_in 1 (g.D.Device.disk d).content) × (false ≡ false → IsGuarded (g.D.Device.disk d).content (length c.args.new.now - 8) 1)) (sym c.swap.ensures.x_after) (
      renewed_file (g.D.Device.disk device) group c.requires.short (g.D.Device.disk c.args.other.now).content c.args.new.now c.requires.bytes c.in-Ok.ensures.ok end end_is c.in-Ok.ensures.durable c.add_places.new.table.items items,
      λ works. renewed_guarded (g.D.Device.disk device) group c.requires.short (g.D.Device.disk c.args.other.now).content c.args.new.now c.requires.bytes c.in-Ok.ensures.ok end end_is,
    )

pub returns-clause-ok : goal.returns-clause-ok
returns-clause-ok g c =
    ap (λ d. groups_in 1 (g.D.Device.disk d).content) c.swap.ensures.x_after
    ∙ renewed_groups (g.D.Device.disk c.renew.new.device) (c.args.header.now ∷ records_of c.args.group.now) c.requires.short (g.D.Device.disk c.args.other.now).content c.args.new.now c.requires.bytes c.in-Ok.ensures.ok

pub returns-clause-kept : goal.returns-clause-kept
returns-clause-kept g c =
    let it = invariant_of-self g c in kept (g.D.Device.disk c.swap.new.x) c.add_places.new.table.items (length c.args.new.now - 8) false 1 it.0 it.1 refl
