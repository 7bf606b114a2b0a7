use Rattle.std.proofs.Common.{◌<◌, length, map, sym, ◌∙◌, ap, arith}
use Rattle.std.specs.List.{filter, range_with_len}
use Rattle.fr_tags.specs.Split.{body_of, is_filled_body}
use Rattle.fr_tags.proofs.SplitLemmas.{body_pushed, body_skipped}
use Rattle.fr_tags.proofs.map.ShardMap.bodies.Goals as goal
use Rattle.fr_tags.proofs.map.ShardMap.bodies.Goals.{then-is_met-number+in_ok-batch+in_ok-push, else-is_met-number}

pub loop-number-preserved : goal.loop-number-preserved
loop-number-preserved c =
    let same = ap length c.begins-number-end.ensures.begins in
    let within : c.loop-number.number < length c.args.self.now = omega (arith, same) in
    let marked = c.met-is_met.ensures c.loop-number.number within in
    elim c.if-is_met-number.branch [
      | then-is_met-number+in_ok-batch+in_ok-push w ↦
          rw w.bodies-is (body_pushed c.args.self.now c.args.batch.now c.loop-number.number w.tag_at-tag.result w.in_ok-batch.batch _ _ c.loop-number.invariant (sym marked ∙ w.if-is_met-number.true) w.tag_at-tag.ensures w.in_ok-batch.ensures w.in_ok-push.ensures.items)
      | else-is_met-number w ↦
          rw w.bodies-is (body_skipped c.args.self.now c.args.batch.now c.loop-number.number _ c.loop-number.invariant (sym marked ∙ w.if-is_met-number.false))
    ]

pub returns : goal.returns
returns c =
    let same = ap length c.begins-number-end.ensures.begins in
    c.loop-number.invariant ∙ ap (λ n. filter is_filled_body (map (body_of c.args.self.now c.args.batch.now) (range_with_len 0 n))) (omega (arith, same))
