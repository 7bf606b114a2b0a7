use Rattle.std.proofs.Common.{◌&&◌, sym, ◌∙◌, ap}
use Rattle.std.specs.Cmp.Lexicographic.{pointwise}
use Rattle.fr_tags.specs.Bodies.{is_same_body}
use Rattle.fr_log.specs.Fields.{three}
use Rattle.fr_log.specs.Left.{left_bodies}
use Rattle.fr_log.specs.Search.{is_found}
use Rattle.fr_log.specs.Pushes.{bodies_from}
use Rattle.fr_log.proofs.Held.{found_is}
use Rattle.fr_log.proofs.pushes.Pushes.has.Goals as goal

pub returns-then-heads : goal.returns-then-heads
returns-then-heads c =
    let ps = c.args.popped.now in
    let p = c.args.push.now in
    let ss = c.self.inside.shelves.items in
    let same = pointwise is_same_body (left_bodies ps p.version p.bodies) (left_bodies ps p.version (bodies_from p.version 0 ss)) in
    c.have_bodies.ensures
    ∙ three (λ v bs xs. pointwise is_same_body (left_bodies ps v bs) (left_bodies ps v (bodies_from v 0 xs))) c.version.ensures.value c.bodies.ensures.value c.deref.ensures.value
    ∙ ap (λ t. t && same) (sym c.if-heads.true ∙ c.heads.ensures)
    ∙ found_is ps p ss c.self.inside.headers ∙ ap (is_found ps p) c.self.view_is

pub returns-else-heads : goal.returns-else-heads
returns-else-heads c =
    let ps = c.args.popped.now in
    let p = c.args.push.now in
    let ss = c.self.inside.shelves.items in
    let same = pointwise is_same_body (left_bodies ps p.version p.bodies) (left_bodies ps p.version (bodies_from p.version 0 ss)) in
    c.if-heads.false ∙ ap (λ t. t && same) (sym c.if-heads.false ∙ c.heads.ensures) ∙ found_is ps p ss c.self.inside.headers ∙ ap (is_found ps p) c.self.view_is
