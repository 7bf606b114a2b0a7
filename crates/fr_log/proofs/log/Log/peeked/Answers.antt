use Rattle.std.proofs.Common.{ap, ◌∙◌, refl, sym, subst, arith}
use Rattle.fr_log.specs.Chain.{IsLog}
use Rattle.fr_log.specs.LogState.{durable_of, known_of}
use Rattle.fr_log.specs.Peeked.{IsPeeked}
use Rattle.fr_log.proofs.Rising.{peek_within, peeked_is}
use Rattle.fr_log.proofs.log.Log.peeked.Goals as goal

pub from_ordered-requires : goal.from_ordered-requires
from_ordered-requires c =
    let l = c.args.self.now in
    let through = c.upto-upto.ensures ∙ rw c.deref.ensures.value refl in
    let is = peeked_is l c.args.tag c.args.after c.args.most c.from-limit.result c.self.inside.durable c.self.inside.known c.upto-upto.result _ _ _ c.in_ok-given.given.items c.in_ok-given.more
    (c.seeded_above-records.ensures ∙ rw c.seed_records.ensures.value refl) (ap (λ s. s.pushes) c.self.view_is) refl (c.from-limit.ensures ∙ c.get.ensures.value) c.in_ok-given.ensures.given
    c.in_ok-given.ensures.more through (c.self.invariant.durable_is ∙ ap durable_of c.self.view_is) (c.self.invariant.known_is ∙ ap known_of c.self.view_is)
    in
    subst IsPeeked (sym is) (peek_within l c.args.tag c.args.after c.args.most (subst IsLog c.self.view_is c.self.invariant.log) (omega (arith, c.get.ensures.within.1, c.get.ensures.value)))

pub returns : goal.returns
returns c =
    let l = c.args.self.now in
    let through = c.upto-upto.ensures ∙ rw c.deref.ensures.value refl in
    c.from_ordered.ensures
    ∙ peeked_is l c.args.tag c.args.after c.args.most c.from-limit.result c.self.inside.durable c.self.inside.known c.upto-upto.result _ _ _ c.in_ok-given.given.items c.in_ok-given.more
    (c.seeded_above-records.ensures ∙ rw c.seed_records.ensures.value refl) (ap (λ s. s.pushes) c.self.view_is) refl (c.from-limit.ensures ∙ c.get.ensures.value) c.in_ok-given.ensures.given
    c.in_ok-given.ensures.more through (c.self.invariant.durable_is ∙ ap durable_of c.self.view_is) (c.self.invariant.known_is ∙ ap known_of c.self.view_is)
