use Rattle.std.proofs.Common.{◌<◌, length, get_or, refl, ap, ◌∙◌, subst, arith}
use Rattle.fr_tail.specs.Tail.{part_at, new_part}
use Rattle.std.proofs.lemmas.List.{get_or_default, length-set}
use Rattle.fr_tail.specs.Shape.{IsTail}
use Rattle.fr_tail.proofs.Merge.{merge_less, merge_more, merge_done, seed_record_is}
use Rattle.fr_tail.proofs.tail.Tail.merged.Goals as goal

pub loop-number-smaller : goal.loop-number-smaller
loop-number-smaller c =
    let shape = subst IsTail c.self.view_is c.self.invariant in
    let few = shape.few in
    let size = c.loop-number.invariant.size in
    let low = c.in-Some.ensures.below in
    merge_less c.args.self.now shape c.loop-number.taken c.in-Some.field-0-0 c.in-Some.number c.index-records-taken.result c.in-Some.ensures (omega (arith, few, size, low))

pub loop-number-preserved : goal.loop-number-preserved
loop-number-preserved c =
    let shape = subst IsTail c.self.view_is c.self.invariant in
    let few = shape.few in
    let size = c.loop-number.invariant.size in
    let low = c.in-Some.ensures.below in
    let own : c.in-Some.number < length c.self-in-loop-number.inside.parts.items = (let count = ap (λ s. length s.parts) c.self-in-loop-number.view_is in omega (arith, count, low)) in
    let part = c.index.ensures ∙ get_or_default c.self-in-loop-number.inside.parts.items c.in-Some.number _ (new_part c.self-in-loop-number.inside.pev) own ∙ ap (λ s. part_at s c.in-Some.number) c.self-in-loop-number.view_is in
    let records = c.records.ensures ∙ ap (λ p. p.records) part in
    let taken = c.index-records-taken.is ∙ ap (λ rs. get_or rs (get_or c.loop-number.taken c.in-Some.number 0) c.index-records-taken.result) records in
    record {
      so_far = merge_more c.args.self.now shape c.loop-number.taken c.in-Some.field-0-0 c.in-Some.number c.index-records-taken.result c.in-Some.ensures (omega (arith, few, size, low))
          c.loop-number.records.items c.push.new.self.items _ _ c.loop-number.invariant.so_far
          (seed_record_is c.args.self.now c.loop-number.taken c.in-Some.number c.index-records-taken.result c.index-records-taken.result _ _ _ taken refl c.tag_at.ensures c.in_ok-copy.ensures) c.in_ok-push.ensures.items;
      size = length-set c.loop-number.taken c.in-Some.number _ ∙ size;
    }

pub returns : goal.returns
returns c = merge_done c.args.self.now c.loop-number.taken c.loop-number.records.items _ c.in_default.ensures c.loop-number.invariant.so_far
