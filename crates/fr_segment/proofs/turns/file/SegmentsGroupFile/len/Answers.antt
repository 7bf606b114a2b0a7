use Rattle.std.proofs.Common.{◌≡◌, false, length, ap, subst, arith}
use Rattle.fr_segment.specs.Health.{has_failed}
use Rattle.fr_segment.specs.Turns.{own_records}
use Rattle.fr_segment.specs.Way.{IsWay}
use Rattle.fr_segment.proofs.InTurn.{resting}
use Rattle.fr_segment.proofs.TurnsLemmas.{own_long}
use Rattle.fr_segment.proofs.turns.file.SegmentsGroupFile.len.Goals as goal

pub returns-clause-value : goal.returns-clause-value
returns-clause-value g c =
    let long = own_long c.self.inside.number c.self.inside.identity c.self.inside.current.groups c.self.invariant.headed in
    let view = ap (λ s. length (own_records s.groups)) c.self.view_is in
    omega (arith, long, view, c.len.ensures.value)

pub returns-clause-kept : goal.returns-clause-kept
returns-clause-kept g c =
    subst (λ s. has_failed s.health ≡ false → IsWay g.D.Device.Led g.D.Device.disk (λ rs. rs ≡ own_records s.groups) s s) c.self.view_is (λ works. resting g.D.Device.Led g.D.Device.disk c.self.inside.current c.self.inside.other c.self.inside.number c.self.inside.identity c.self.inside.health c.self.invariant works)
