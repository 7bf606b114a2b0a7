use Rattle.std.proofs.Common.{◌≡◌, subst, false}
use Rattle.fr_record.specs.Moments.{LeavesOnly}
use Rattle.fr_segment.specs.File.{IsAtRest}
use Rattle.fr_segment.proofs.Grown.{kept}
use Rattle.fr_segment.proofs.segment.Segment.len.Goals as goal

pub returns-clause-kept : goal.returns-clause-kept
returns-clause-kept g c =
    subst (λ s. s.is_failed ≡ false → LeavesOnly g.D.Device.Led g.D.Device.disk (IsAtRest s.groups) s.device) c.self.view_is
    (λ works. kept (g.D.Device.disk c.self.inside.device) c.self.inside.table.items c.self.inside.end c.self.inside.is_failed c.self.inside.count c.self.invariant.0 c.self.invariant.1 works)
