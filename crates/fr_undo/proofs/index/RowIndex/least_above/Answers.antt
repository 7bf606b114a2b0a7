use Rattle.std.proofs.Common.{◌≡◌, true, not, ℕ, List, ap, ◌∙◌, subst}
use Rattle.std.specs.declared.ops.Bound.TheVariants.{Included, Unbounded}
use Rattle.std.specs.BTreeSet.{IsKeyRangeOf}
use Rattle.std.proofs.lemmas.Slice.Eq.{bytes_eq-Decides}
use Rattle.fr_base.specs.Bytes.{bytes_eq}
use Rattle.fr_undo.specs.Index.{by_key}
use Rattle.fr_undo.proofs.IndexLemmas.{none_above, least_of_key, least_of_other, unequal}
use Rattle.fr_undo.proofs.index.RowIndex.least_above.Goals as goal

pub returns-in_default : goal.returns-in_default
returns-in_default c =
    let places = c.args.self.now.places in
    let is = subst (λ (x : List ℕ × ℕ). IsKeyRangeOf by_key (Included x) Unbounded places c.range.result) (λ i. (c.in_ok-copy.ensures i, c.next.ensures i)) (c.range.ensures.in_range tt) in
    none_above places c.args.key.now c.args.version c.range.result is c.in_default.ensures.steps.0

pub returns-then-ne : goal.returns-then-ne
returns-then-ne c =
    let places = c.args.self.now.places in
    let is = subst (λ (x : List ℕ × ℕ). IsKeyRangeOf by_key (Included x) Unbounded places c.range.result) (λ i. (c.in_ok-copy.ensures i, c.next.ensures i)) (c.range.ensures.in_range tt) in
    least_of_other places c.args.key.now c.args.version c.range.result is c.in-Some.place.now _ c.in-Some.ensures.steps (λ same.
    let alike : bytes_eq c.in-Some.place.now.0 c.args.key.now ≡ true = (bytes_eq-Decides c.in-Some.place.now.0 c.args.key.now).1 same in
    absurd (let off = c.ne.ensures ∙ ap not alike in let on = c.if-ne.true in cc))

pub returns : goal.returns
returns c =
    let places = c.args.self.now.places in
    let is = subst (λ (x : List ℕ × ℕ). IsKeyRangeOf by_key (Included x) Unbounded places c.range.result) (λ i. (c.in_ok-copy.ensures i, c.next.ensures i)) (c.range.ensures.in_range tt) in
    least_of_key places c.args.key.now c.args.version c.range.result is c.in-Some.place.now _ c.in-Some.ensures.steps ((bytes_eq-Decides c.in-Some.place.now.0 c.args.key.now).0 (unequal c.ne.result _ c.ne.ensures c.if-ne.false))
