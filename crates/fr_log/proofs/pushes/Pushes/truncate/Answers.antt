use Rattle.std.proofs.Common.{take, sym, ◌∙◌, ap, subst}
use Rattle.fr_log.specs.Pushes.{IsIndexed, pushes_in, shelf_of, cut}
use Rattle.fr_log.proofs.Chaining.{version_within, version_is, version_none, take_long, no_header}
use Rattle.fr_log.proofs.Held.{first_indexed, first_held, held_take_all}
use Rattle.fr_log.proofs.pushes.Pushes.truncate.Goals as goal

pub invariant_of-self : goal.invariant_of-self
invariant_of-self c =
    let ss = c.self.inside.shelves.items in
    let hs = c.self.inside.headers in
    let within = version_within hs c.args.left c.in-Some.from c.in-Some.ensures.from in
    let at = version_is hs c.args.left c.in-Some.from no_header c.in-Some.ensures.from in
    subst (IsIndexed c.cut_all.new.shelves.items) (sym c.truncate.ensures.left)
    (first_indexed ss c.cut_all.new.shelves.items hs c.args.left no_header c.self.invariant within (λ t. c.cut_all.ensures t ∙ ap (λ v. cut v (shelf_of ss t)) at))

pub invariant_of-self-in_default : goal.invariant_of-self-in_default
invariant_of-self-in_default c =
    let hs = c.self.inside.headers in
    subst (IsIndexed c.self.inside.shelves.items) (take_long hs c.args.left (version_none hs c.args.left c.in_default.ensures.from) ∙ sym c.truncate.ensures.left) c.self.invariant

pub returns-in-Some : goal.returns-in-Some
returns-in-Some c =
    let ss = c.self.inside.shelves.items in
    let hs = c.self.inside.headers in
    let within = version_within hs c.args.left c.in-Some.from c.in-Some.ensures.from in
    let at = version_is hs c.args.left c.in-Some.from no_header c.in-Some.ensures.from in
    ap (pushes_in c.cut_all.new.shelves.items) c.truncate.ensures.left
    ∙ first_held ss c.cut_all.new.shelves.items hs c.args.left no_header c.self.invariant within (λ t. c.cut_all.ensures t ∙ ap (λ v. cut v (shelf_of ss t)) at)
    ∙ ap (take c.args.left) c.self.view_is

pub returns-in_default : goal.returns-in_default
returns-in_default c =
    let ss = c.self.inside.shelves.items in
    let hs = c.self.inside.headers in
    let past = version_none hs c.args.left c.in_default.ensures.from in
    ap (pushes_in ss) (c.truncate.ensures.left ∙ sym (take_long hs c.args.left past)) ∙ held_take_all ss hs c.args.left past ∙ ap (take c.args.left) c.self.view_is
