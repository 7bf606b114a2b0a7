use Rattle.std.proofs.Common.{◌≡◌, subst, false}
use Rattle.fr_record.specs.Moments.{LeavesOnly}
use Rattle.fr_record.specs.File.{IsAtRest}
use Rattle.fr_record.proofs.Grown.{kept}
use Rattle.fr_record.proofs.records.Records.len.Goals as goal

pub returns-clause-kept : goal.returns-clause-kept
returns-clause-kept g c =
    subst (λ s. s.is_failed ≡ false → LeavesOnly g.D.Device.Led g.D.Device.disk (IsAtRest s.records) s.device) c.self.view_is
    (λ works. kept (g.D.Device.disk c.self.inside.device) c.self.inside.table.items c.self.inside.end c.self.inside.is_failed c.self.invariant works)
