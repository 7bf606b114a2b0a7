use Rattle.std.proofs.Common.{rules, ◌+◌, ◌≡◌, ◌<◌, ap, sym, subst, ◌∙◌, ◌++◌, ◌∷◌, [], length, arith, length-append, Err}
use Rattle.fr_record.specs.Moments.{LeavesOnly, Throughout}
use Rattle.fr_segment.specs.File.{body, block, behind, guard, groups_from, IsLeft, IsAtRest}
use Rattle.fr_segment.specs.Group.{records_of, places_of}
use Rattle.fr_segment.specs.Table.{IsFile, groups_in}
use Rattle.fr_segment.proofs.FileLemmas.{groups_long, length-block}
use Rattle.fr_segment.proofs.GuardBytes.{length-guard}
use Rattle.fr_segment.proofs.Grown.{end_is, count_is, spelled_there, kept, at_rest, while_put, failed_file, failed_groups, grown_file, guarded_file, grown_found}
use Rattle.fr_segment.proofs.segment.Segment.put_group.Goals as goal

pub returns-in_err-reserve-clause-any_moment : goal.returns-in_err-reserve-clause-any_moment
returns-in_err-reserve-clause-any_moment g c =
    let works = ap (λ s. s.is_failed) c.self.view_is ∙ c.requires.works in
    subst (λ s. Throughout g.D.Device.Led g.D.Device.disk (IsLeft s.groups (records_of c.args.group.now)) s.device c.self.inside.device) c.self.view_is
    (at_rest g.D.Device.Led g.D.Device.disk c.self.inside.device c.self.inside.table.items c.self.inside.end c.self.inside.is_failed c.self.inside.count c.self.invariant.0 works (records_of c.args.group.now))

pub returns-in-Err-Device-clause-any_moment : goal.returns-in-Err-Device-clause-any_moment
returns-in-Err-Device-clause-any_moment g c =
    let works = ap (λ s. s.is_failed) c.self.view_is ∙ c.requires.works in
    let bytes = spelled_there (g.D.Device.disk c.self.inside.device) c.self.inside.table.items c.self.inside.end c.self.inside.is_failed c.self.inside.count c.self.invariant.0 _ (ap (λ s. s.groups) c.self.view_is) (records_of c.args.group.now) _ c.requires.bytes in
    subst (λ s. Throughout g.D.Device.Led g.D.Device.disk (IsLeft s.groups (records_of c.args.group.now)) s.device c.put.new.device) c.self.view_is
    (while_put g.D.Device.Led g.D.Device.disk c.self.inside.device c.self.inside.table.items c.self.inside.end c.self.inside.is_failed c.self.inside.count c.self.invariant.0 _ c.put.new.device c.put.ensures.any_moment works (records_of c.args.group.now) bytes)

pub returns-clause-any_moment : goal.returns-clause-any_moment
returns-clause-any_moment g c =
    let works = ap (λ s. s.is_failed) c.self.view_is ∙ c.requires.works in
    let bytes = spelled_there (g.D.Device.disk c.self.inside.device) c.self.inside.table.items c.self.inside.end c.self.inside.is_failed c.self.inside.count c.self.invariant.0 _ (ap (λ s. s.groups) c.self.view_is) (records_of c.args.group.now) _ c.requires.bytes in
    subst (λ s. Throughout g.D.Device.Led g.D.Device.disk (IsLeft s.groups (records_of c.args.group.now)) s.device c.put.new.device) c.self.view_is
    (while_put g.D.Device.Led g.D.Device.disk c.self.inside.device c.self.inside.table.items c.self.inside.end c.self.inside.is_failed c.self.inside.count c.self.invariant.0 _ c.put.new.device c.put.ensures.any_moment works (records_of c.args.group.now) bytes)

pub invariant_of-self-in-Err-Device : goal.invariant_of-self-in-Err-Device
invariant_of-self-in-Err-Device g c = (
  subst (λ t. IsFile (g.D.Device.disk c.put.new.device) t c.self.inside.end _ (groups_in c.self.inside.count (g.D.Device.disk c.put.new.device).content)) (sym c.reserve.ensures.items)
      (failed_file g.D.Device.Led g.D.Device.disk c.self.inside.device c.self.inside.table.items c.self.inside.end c.self.inside.is_failed c.self.inside.count c.self.invariant.0 _ c.put.new.device c.put.ensures.any_moment),
  λ never. absurd (cc never),
)

pub returns-in-Err-Device-clause-err : goal.returns-in-Err-Device-clause-err
returns-in-Err-Device-clause-err g c =
    failed_groups g.D.Device.Led g.D.Device.disk c.self.inside.device c.self.inside.table.items c.self.inside.end c.self.inside.is_failed c.self.inside.count c.self.invariant.0 _ c.put.new.device c.put.ensures.any_moment
    ∙ ap (λ s. s.groups) c.self.view_is

pub unreachable-requires : goal.unreachable-requires
unreachable-requires g c =
    let end = end_is (g.D.Device.disk c.self.inside.device) c.self.inside.table.items c.self.inside.end c.self.inside.is_failed c.self.inside.count c.self.invariant.0 in
    let groups = ap (λ s. length (groups_from 0 s.groups)) c.self.view_is in
    let capacity = ap (λ s. g.D.Device.capacity_of s.device) c.self.view_is in
    let full = c.put.ensures.full (c.in-Err-Full.is ∙ ap (λ f. Err f) c.in-Err-Full.field-0-is) in
    let bytes = ap length (spelled_there (g.D.Device.disk c.self.inside.device) c.self.inside.table.items c.self.inside.end c.self.inside.is_failed c.self.inside.count c.self.invariant.0 _ (ap (λ s. s.groups) c.self.view_is) (records_of c.args.group.now) _ c.requires.bytes) in
    let b = body (records_of c.args.group.now) in
    omega (arith, end, groups, capacity, full.1, bytes, c.requires.room, length-append (behind c.self.inside.count (records_of c.args.group.now)) (guard (c.self.inside.count + 1)), length-guard (c.self.inside.count + 1), length-append (block c.self.inside.count b) (0 ∷ 0 ∷ []), length-block c.self.inside.count b)

pub overflow_add-gate : goal.overflow_add-gate
overflow_add-gate g c =
    let bytes = ap length (spelled_there (g.D.Device.disk c.self.inside.device) c.self.inside.table.items c.self.inside.end c.self.inside.is_failed c.self.inside.count c.self.invariant.0 _ (ap (λ s. s.groups) c.self.view_is) (records_of c.args.group.now) _ c.requires.bytes) in
    let b = body (records_of c.args.group.now) in
    record {
      fits = omega (
        arith,
        bytes,
        c.in-Ok.ensures.fits,
        c.group_len-len.ensures,
        c.requires.short,
        length-append (behind c.self.inside.count (records_of c.args.group.now)) (guard (c.self.inside.count + 1)),
        length-guard (c.self.inside.count + 1),
        length-append (block c.self.inside.count b) (0 ∷ 0 ∷ []),
        length-block c.self.inside.count b,
      );
    }

pub overflow_add-self : goal.overflow_add-self
overflow_add-self g c =
    let bytes = ap length (spelled_there (g.D.Device.disk c.self.inside.device) c.self.inside.table.items c.self.inside.end c.self.inside.is_failed c.self.inside.count c.self.invariant.0 _ (ap (λ s. s.groups) c.self.view_is) (records_of c.args.group.now) _ c.requires.bytes) in
    let b = body (records_of c.args.group.now) in
    record {
      fits = omega (
        arith,
        bytes,
        c.in-Ok.ensures.fits,
        c.group_len-len.ensures,
        c.requires.short,
        length-append (behind c.self.inside.count (records_of c.args.group.now)) (guard (c.self.inside.count + 1)),
        length-guard (c.self.inside.count + 1),
        length-append (block c.self.inside.count b) (0 ∷ 0 ∷ []),
        length-block c.self.inside.count b,
      );
    }

pub overflow_add-self-2 : goal.overflow_add-self-2
overflow_add-self-2 g c =
    let bytes = ap length (spelled_there (g.D.Device.disk c.self.inside.device) c.self.inside.table.items c.self.inside.end c.self.inside.is_failed c.self.inside.count c.self.invariant.0 _ (ap (λ s. s.groups) c.self.view_is) (records_of c.args.group.now) _ c.requires.bytes) in
    let b = body (records_of c.args.group.now) in
    record {
      fits = omega (
        arith,
        bytes,
        c.in-Ok.ensures.fits,
        c.group_len-len.ensures,
        c.requires.short,
        length-append (behind c.self.inside.count (records_of c.args.group.now)) (guard (c.self.inside.count + 1)),
        length-guard (c.self.inside.count + 1),
        length-append (block c.self.inside.count b) (0 ∷ 0 ∷ []),
        length-block c.self.inside.count b,
      );
    }

pub add_places-requires-clause-fits : goal.add_places-requires-clause-fits
add_places-requires-clause-fits g c =
    let bytes = ap length (spelled_there (g.D.Device.disk c.self.inside.device) c.self.inside.table.items c.self.inside.end c.self.inside.is_failed c.self.inside.count c.self.invariant.0 _ (ap (λ s. s.groups) c.self.view_is) (records_of c.args.group.now) _ c.requires.bytes) in
    let b = body (records_of c.args.group.now) in
    omega (
      arith,
      bytes,
      c.in-Ok.ensures.fits,
      length-append (behind c.self.inside.count (records_of c.args.group.now)) (guard (c.self.inside.count + 1)),
      length-guard (c.self.inside.count + 1),
      length-append (block c.self.inside.count b) (0 ∷ 0 ∷ []),
      length-block c.self.inside.count b,
    )

pub overflow_add-self-3 : goal.overflow_add-self-3
overflow_add-self-3 g c =
    let end = end_is (g.D.Device.disk c.self.inside.device) c.self.inside.table.items c.self.inside.end c.self.inside.is_failed c.self.inside.count c.self.invariant.0 in
    let count = count_is (g.D.Device.disk c.self.inside.device) c.self.inside.table.items c.self.inside.end c.self.inside.is_failed c.self.inside.count c.self.invariant.0 in
    let long = groups_long 0 (groups_in c.self.inside.count (g.D.Device.disk c.self.inside.device).content) in
    record { fits = omega (arith, end, count, long, c.in-Ok.ensures.fits) }

pub invariant_of-self-2 : goal.invariant_of-self-2
invariant_of-self-2 g c =
    let items = c.add_places.ensures ∙ ap (λ t. t ++ places_of (c.self.inside.end + 10) c.args.group.now) c.reserve.ensures.items in
    let n_is : c.group_len-len.result ≡ length (body (records_of c.args.group.now)) = omega (arith, c.group_len-len.ensures, c.requires.short) in
    let bytes = spelled_there (g.D.Device.disk c.self.inside.device) c.self.inside.table.items c.self.inside.end c.self.inside.is_failed c.self.inside.count c.self.invariant.0 _ (ap (λ s. s.groups) c.self.view_is) (records_of c.args.group.now) _ c.requires.bytes in (
      grown_file g.D.Device.Led g.D.Device.disk c.self.inside.device c.self.inside.table.items c.self.inside.end c.self.inside.is_failed c.self.inside.count c.self.invariant.0 _ c.put.new.device (records_of c.args.group.now) c.requires.short bytes c.in-Ok.ensures.ok c.group_len-len.result n_is c.in-Ok.ensures.durable
          c.add_places.new.table.items items,
      λ works. guarded_file g.D.Device.Led g.D.Device.disk c.self.inside.device c.self.inside.table.items c.self.inside.end c.self.inside.is_failed c.self.inside.count c.self.invariant.0 _ c.put.new.device (records_of c.args.group.now) c.requires.short bytes c.in-Ok.ensures.ok c.group_len-len.result n_is,
    )

pub returns-clause-ok : goal.returns-clause-ok
returns-clause-ok g c =
    let bytes = spelled_there (g.D.Device.disk c.self.inside.device) c.self.inside.table.items c.self.inside.end c.self.inside.is_failed c.self.inside.count c.self.invariant.0 _ (ap (λ s. s.groups) c.self.view_is) (records_of c.args.group.now) _ c.requires.bytes in
    grown_found g.D.Device.Led g.D.Device.disk c.self.inside.device c.self.inside.table.items c.self.inside.end c.self.inside.is_failed c.self.inside.count c.self.invariant.0 _ c.put.new.device (records_of c.args.group.now) c.requires.short bytes c.in-Ok.ensures.ok
    ∙ ap (λ s. s.groups ++ records_of c.args.group.now ∷ []) c.self.view_is

pub returns-clause-kept : goal.returns-clause-kept
returns-clause-kept g c =
    let works = ap (λ s. s.is_failed) c.self.view_is ∙ c.requires.works in
    let it = invariant_of-self-2 g c in kept (g.D.Device.disk c.put.new.device) c.add_places.new.table.items (c.self.inside.end + 14 + c.group_len-len.result) c.self.inside.is_failed (c.self.inside.count + 1) it.0 it.1 works
