use Rattle.std.proofs.Common.{refl, sym, subst}
use Rattle.fr_record.specs.Moments.{LeavesOnly}
use Rattle.fr_segment.specs.File.{IsAtRest}
use Rattle.fr_segment.specs.Table.{groups_in}
use Rattle.fr_segment.proofs.Grown.{kept}
use Rattle.fr_segment.proofs.segment.Segment.take_over.Goals as goal

pub returns-clause-kept : goal.returns-clause-kept
returns-clause-kept g c =
    subst (λ d. LeavesOnly g.D.Device.Led g.D.Device.disk (IsAtRest (groups_in c.in-Ok.found.count (g.D.Device.disk d).content)) d) (sym c.swap.ensures.x_after)
    (kept (g.D.Device.disk c.read_file.new.device) c.in-Ok.found.table.items c.in-Ok.found.end _ c.in-Ok.found.count c.in-Ok.ensures.file (λ works. c.in-Ok.ensures.guarded) refl)
