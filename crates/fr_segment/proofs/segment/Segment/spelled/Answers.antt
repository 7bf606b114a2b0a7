use Rattle.std.proofs.Common.{◌+◌, ◌≡◌, ap, sym, subst, ◌∙◌, ◌++◌, ◌∷◌, [], length, arith}
use Rattle.std.specs.Prelude.{IfOk}
use Rattle.fr_segment.specs.File.{body, block, behind, guard, groups_from}
use Rattle.fr_segment.specs.Group.{records_of}
use Rattle.fr_segment.specs.Table.{groups_in}
use Rattle.fr_segment.proofs.FileLemmas.{groups_long}
use Rattle.fr_segment.proofs.Grown.{count_is}
use Rattle.fr_segment.proofs.segment.Segment.spelled.Goals as goal

pub behind_gate-requires-clause-next : goal.behind_gate-requires-clause-next
behind_gate-requires-clause-next g c =
    let count = count_is (g.D.Device.disk c.self.inside.device) c.self.inside.table.items c.self.inside.end c.self.inside.is_failed c.self.inside.count c.self.invariant.0 in
    let long = groups_long 0 (groups_in c.self.inside.count (g.D.Device.disk c.self.inside.device).content) in
    let groups = ap (λ s. length (groups_from 0 s.groups)) c.self.view_is in
    omega (arith, count, long, groups, c.has_room-within.ensures.within, c.has_room-within.ensures.least)

pub returns : goal.returns
returns g c =
    let count = count_is (g.D.Device.disk c.self.inside.device) c.self.inside.table.items c.self.inside.end c.self.inside.is_failed c.self.inside.count c.self.invariant.0 in
    let k : c.self.inside.count ≡ length c.args.self.now.groups = sym count ∙ ap (λ s. length s.groups) c.self.view_is in
    let is : c.deref.result.now ≡ body (records_of c.args.group.now) = c.deref.ensures.value ∙ c.in_ok-body.ensures in
    subst (λ bytes. IfOk c.behind_gate.result (λ it. it.items ≡ bytes)) (ap (λ b. (block c.self.inside.count b ++ 0 ∷ 0 ∷ []) ++ guard (c.self.inside.count + 1)) is ∙ ap (λ n. behind n (records_of c.args.group.now) ++ guard (n + 1)) k) c.behind_gate.ensures
