use Rattle.std.proofs.Common.{refl, ap, ◌∙◌, ℕ, List, [], ◌∷◌, ◌++◌, drop, length, sym, arith}
use Rattle.fr_record.specs.Disk.{written}
use Rattle.fr_segment.specs.File.{Group, body, guard, IsAtRest}
use Rattle.fr_segment.specs.Table.{groups_in}
use Rattle.fr_segment.proofs.Grown.{fresh_file, fresh_guarded, kept}
use Rattle.fr_segment.proofs.segment.Segment.format.Goals as goal

pub returns-clause-groups : goal.returns-clause-groups
unfolding groups_in
returns-clause-groups g c = refl

pub invariant_of-result : goal.invariant_of-result
invariant_of-result g c =
    let old = (g.D.Device.disk c.args.device).content in
    let is = c.in_ok-sync.ensures.stands.same ∙ c.in_ok-write_at.ensures.ok ∙ ap (λ l. written old 0 l) c.no_groups.ensures in (
      fresh_file (g.D.Device.disk c.sync.new.self) old is c.in_ok-sync.ensures.durable c.new.result.items c.new.ensures.items,
      λ works. fresh_guarded (g.D.Device.disk c.sync.new.self).content old is,
    )

pub returns-clause-kept : goal.returns-clause-kept
returns-clause-kept g c = let it = invariant_of-result g c in kept (g.D.Device.disk c.sync.new.self) c.new.result.items 0 _ 0 it.0 it.1 refl
