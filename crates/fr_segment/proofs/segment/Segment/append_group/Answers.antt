use Rattle.std.proofs.Common.{rules, ◌+◌, ◌≡◌, ◌<◌, ap, sym, subst, ◌∙◌, ◌++◌, ◌∷◌, [], length, arith}
use Rattle.fr_record.specs.Moments.{LeavesOnly, Throughout}
use Rattle.fr_segment.specs.File.{IsLeft, IsAtRest}
use Rattle.fr_segment.specs.Group.{records_of}
use Rattle.fr_segment.proofs.Grown.{with_some, room, kept, at_rest}
use Rattle.fr_segment.proofs.segment.Segment.append_group.Goals as goal

pub returns-then-is_empty-clause-any_moment : goal.returns-then-is_empty-clause-any_moment
returns-then-is_empty-clause-any_moment g c works =
    subst (λ s. Throughout g.D.Device.Led g.D.Device.disk (IsLeft s.groups (records_of c.args.group.now)) s.device s.device) c.self.view_is
    (at_rest g.D.Device.Led g.D.Device.disk c.self.inside.device c.self.inside.table.items c.self.inside.end c.self.inside.is_failed c.self.inside.count c.self.invariant.0 c.if-self.false (records_of c.args.group.now))

pub returns-then-not-has_room-clause-any_moment : goal.returns-then-not-has_room-clause-any_moment
returns-then-not-has_room-clause-any_moment g c works =
    subst (λ s. Throughout g.D.Device.Led g.D.Device.disk (IsLeft s.groups (records_of c.args.group.now)) s.device s.device) c.self.view_is
    (at_rest g.D.Device.Led g.D.Device.disk c.self.inside.device c.self.inside.table.items c.self.inside.end c.self.inside.is_failed c.self.inside.count c.self.invariant.0 c.if-self.false (records_of c.args.group.now))

pub returns-in_err-new-clause-any_moment : goal.returns-in_err-new-clause-any_moment
returns-in_err-new-clause-any_moment g c works =
    subst (λ s. Throughout g.D.Device.Led g.D.Device.disk (IsLeft s.groups (records_of c.args.group.now)) s.device s.device) c.self.view_is
    (at_rest g.D.Device.Led g.D.Device.disk c.self.inside.device c.self.inside.table.items c.self.inside.end c.self.inside.is_failed c.self.inside.count c.self.invariant.0 c.if-self.false (records_of c.args.group.now))

pub returns-then-is_empty-clause-kept : goal.returns-then-is_empty-clause-kept
returns-then-is_empty-clause-kept g c =
    subst (λ s. LeavesOnly g.D.Device.Led g.D.Device.disk (IsAtRest s.groups) s.device) c.self.view_is (kept (g.D.Device.disk c.self.inside.device) c.self.inside.table.items c.self.inside.end c.self.inside.is_failed c.self.inside.count c.self.invariant.0 c.self.invariant.1 c.if-self.false)
