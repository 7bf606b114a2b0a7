use Rattle.std.proofs.Common.{◌||◌, ap, sym, ◌∙◌}
use Rattle.fr_mutation.specs.Mutation.{is_between}
use Rattle.fr_undo.specs.Changes.{covers}
use Rattle.fr_undo.proofs.RangeLemmas.{or_assoc}
use Rattle.fr_undo.proofs.ranges.with_range.Goals as goal

pub loop-range-preserved : goal.loop-range-preserved
loop-range-preserved c = λ q.
    let range = c.in-Some.range in
    let left = covers c.next.new.self.rest.items q in
    let so_far = covers c.loop-range.apart.items q || is_between c.loop-range.merged.0 c.loop-range.merged.1 q in
    ap (λ b. b || left) (c.in_ok-merged.ensures q)
    ∙ sym (or_assoc so_far (is_between range.0 range.1 q) left)
    ∙ sym (ap (λ xs. so_far || covers xs q) c.in-Some.ensures.steps.0)
    ∙ c.loop-range.invariant q
