use Rattle.std.proofs.Common.{◌≡◌, ◌<◌, length, get_or, sym, ap, ◌∙◌, subst, arith}
use Rattle.std.specs.Prelude.{slice_set}
use Rattle.std.specs.List.{insert}
use Rattle.std.proofs.lemmas.Bool.{eqb-true, eqb-false}
use Rattle.std.proofs.lemmas.List.{get_or_default}
use Rattle.fr_log.specs.declared.popped.PoppedTag.{PoppedTag}
use Rattle.fr_log.specs.Left.{raised, place_in}
use Rattle.fr_log.proofs.Popping.{raised_set, raised_insert}
use Rattle.fr_log.proofs.popped.PoppedTags.raise.Goals as goal
use Rattle.fr_log.proofs.popped.PoppedTags.raise.Goals.{else-at-len-via-then-at-len+else-eq, else-at-len-via-else-at-len}

pub returns-then-eq-clause-after : goal.returns-then-eq-clause-after
returns-then-eq-clause-after c =
    let ps = c.self.inside.entries.items in
    let place : c.place_of-at.result ≡ place_in ps c.args.tag = c.place_of-at.ensures.place ∙ ap (λ xs. place_in xs c.args.tag) c.deref.ensures.value in
    let inside = c.if-at-len.true in
    let long = c.len.ensures in
    let same = eqb-true c.index.result.now.tag c.args.tag (sym c.if-eq.ensures) in
    ap (λ n. slice_set ps n (record { tag = c.args.tag; version = c.args.version })) place
    ∙ raised_set ps c.args.tag c.args.version c.index.result.now (omega (arith, inside, long, place)) (subst (λ n. (get_or ps n c.index.result.now).tag ≡ c.args.tag) place (ap (λ (x : PoppedTag). x.tag) (sym c.index.ensures) ∙ same))
    ∙ ap (λ xs. raised xs c.args.tag c.args.version) c.self.view_is

pub returns-clause-after : goal.returns-clause-after
returns-clause-after c =
    let ps = c.self.inside.entries.items in
    let place : c.place_of-at.result ≡ place_in ps c.args.tag = c.place_of-at.ensures.place ∙ ap (λ xs. place_in xs c.args.tag) c.deref.ensures.value in
    let other : (d : PoppedTag) → place_in ps c.args.tag < length ps → (get_or ps (place_in ps c.args.tag) d).tag ≡ c.args.tag → ⊥ = elim c.else-at-len.branch [
      | else-at-len-via-then-at-len+else-eq w ↦ λ d inside same. (
          let apart = eqb-false w.index.result.now.tag c.args.tag (sym w.if-eq.ensures) in
          let there = ap (λ (x : PoppedTag). x.tag) (w.index.ensures ∙ get_or_default ps c.place_of-at.result w.index.result.now d (omega (arith, inside, place))) in
          absurd (apart (there ∙ ap (λ n. (get_or ps n d).tag) place ∙ same)))
      | else-at-len-via-else-at-len w ↦ λ d inside same. (
          let past = w.if-at-len.false in
          let long = c.len.ensures in
          absurd (omega (arith, past, long, place, inside)))
    ] in
    c.in_ok-insert.ensures.items ∙ ap (λ n. insert ps n (record { tag = c.args.tag; version = c.args.version })) place
    ∙ raised_insert ps c.args.tag c.args.version other ∙ ap (λ xs. raised xs c.args.tag c.args.version) c.self.view_is
