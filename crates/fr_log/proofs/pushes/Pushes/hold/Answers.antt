use Rattle.std.proofs.Common.{ℕ, ◌∷◌, [], ◌++◌, take, sym, ◌∙◌, ap, subst}
use Rattle.std.proofs.Math.Seq.{take-append_seam}
use Rattle.fr_tags.specs.Bodies.{batch_of}
use Rattle.fr_log.specs.Fields.{two}
use Rattle.fr_log.specs.Pushes.{AreBelow, ArePushedBelow, IsIndexed, RiseFrom, pushes_in, shelf_of, at_version}
use Rattle.fr_log.proofs.Held.{shelves_below, same_indexed, same_pushes, rise_held, more_indexed, more_held}
use Rattle.fr_log.proofs.pushes.Pushes.hold.Goals as goal

pub push-requires : goal.push-requires
push-requires c =
    let below = subst (ArePushedBelow c.args.push.version) (sym c.self.view_is) c.requires in
    subst (λ h. RiseFrom 0 (c.self.inside.headers ++ h ∷ [])) (sym c.into_parts-header.ensures.header)
    (rise_held c.self.inside.shelves.items c.self.inside.headers c.args.push c.self.invariant below)

pub put_all-requires-clause-fresh : goal.put_all-requires-clause-fresh
put_all-requires-clause-fresh c =
    let below = subst (ArePushedBelow c.args.push.version) (sym c.self.view_is) c.requires in
    subst (λ v. (t : ℕ) → AreBelow v (shelf_of c.self.inside.shelves.items t)) (sym c.version-version.ensures.value)
    (shelves_below c.args.push.version c.self.inside.shelves.items c.self.inside.headers c.self.invariant below)

pub invariant_of-self-in-Err : goal.invariant_of-self-in-Err
invariant_of-self-in-Err c =
    let hs = c.self.inside.headers in
    let back = c.truncate.ensures.left ∙ two take c.len-count.ensures c.in_ok-push.ensures.after ∙ take-append_seam hs (c.into_parts-header.result.0 ∷ []) in
    subst (IsIndexed c.cut_all.new.shelves.items) (sym back)
    (same_indexed c.self.inside.shelves.items c.cut_all.new.shelves.items hs (λ t. c.cut_all.ensures t ∙ c.in-Err.ensures.err t) c.self.invariant)

pub returns-in-Err-clause-err : goal.returns-in-Err-clause-err
returns-in-Err-clause-err c =
    let hs = c.self.inside.headers in
    let back = c.truncate.ensures.left ∙ two take c.len-count.ensures c.in_ok-push.ensures.after ∙ take-append_seam hs (c.into_parts-header.result.0 ∷ []) in
    ap (pushes_in c.cut_all.new.shelves.items) back
    ∙ same_pushes c.cut_all.new.shelves.items c.self.inside.shelves.items hs (λ t. c.cut_all.ensures t ∙ c.in-Err.ensures.err t) ∙ c.self.view_is

pub invariant_of-self-in_default : goal.invariant_of-self-in_default
invariant_of-self-in_default c =
    let p = c.args.push in
    let ss = c.self.inside.shelves.items in
    let hs = c.self.inside.headers in
    let below = subst (ArePushedBelow p.version) (sym c.self.view_is) c.requires in
    let items = c.in_ok-push.ensures.after ∙ ap (λ h. hs ++ h ∷ []) c.into_parts-header.ensures.header in
    subst (IsIndexed c.put_all.new.shelves.items) (sym items)
    (more_indexed ss c.put_all.new.shelves.items hs p c.self.invariant c.version-version.ensures.sound.rising below
    (λ t. c.in_default.ensures.after t ∙ two (λ v bs. shelf_of ss t ++ at_version v (batch_of t bs)) c.version-version.ensures.value c.into_parts-header.ensures.bodies))

pub returns-clause-after : goal.returns-clause-after
returns-clause-after c =
    let p = c.args.push in
    let ss = c.self.inside.shelves.items in
    let hs = c.self.inside.headers in
    let below = subst (ArePushedBelow p.version) (sym c.self.view_is) c.requires in
    let items = c.in_ok-push.ensures.after ∙ ap (λ h. hs ++ h ∷ []) c.into_parts-header.ensures.header in
    ap (pushes_in c.put_all.new.shelves.items) items
    ∙ more_held ss c.put_all.new.shelves.items hs p c.self.invariant c.version-version.ensures.sound.rising below
    (λ t. c.in_default.ensures.after t ∙ two (λ v bs. shelf_of ss t ++ at_version v (batch_of t bs)) c.version-version.ensures.value c.into_parts-header.ensures.bodies)
    ∙ ap (λ ps. ps ++ p ∷ []) c.self.view_is
