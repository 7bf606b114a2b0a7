use Rattle.std.proofs.Common.{◌≡◌, false, subst}
use Rattle.fr_segment.specs.Health.{has_failed}
use Rattle.fr_segment.specs.Turns.{own_records}
use Rattle.fr_segment.specs.Way.{IsWay}
use Rattle.fr_segment.proofs.InTurn.{works_owe, resting}
use Rattle.fr_segment.proofs.turns.file.SegmentsGroupFile.is_failed.Goals as goal

pub returns-clause-free : goal.returns-clause-free
returns-clause-free g c works = works_owe (own_records c.args.self.now.groups) c.args.self.now.health works

pub returns-clause-kept : goal.returns-clause-kept
returns-clause-kept g c =
    subst (λ s. has_failed s.health ≡ false → IsWay g.D.Device.Led g.D.Device.disk (λ rs. rs ≡ own_records s.groups) s s) c.self.view_is (λ works. resting g.D.Device.Led g.D.Device.disk c.self.inside.current c.self.inside.other c.self.inside.number c.self.inside.identity c.self.inside.health c.self.invariant works)
