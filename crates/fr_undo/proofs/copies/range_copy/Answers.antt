use Rattle.std.proofs.Common.{◌∙◌, not, false, ◌&&◌}
use Rattle.std.specs.Ordering.{is_le}
use Rattle.std.proofs.lemmas.Result.{IfOk-weaker}
use Rattle.fr_base.specs.Bytes.{bytes_cmp}
use Rattle.fr_base.specs.Map.{map_of}
use Rattle.fr_undo.proofs.TreeLemmas.{part-entries, part-inverted, in_shard-open, in_shard-closed}
use Rattle.fr_undo.proofs.copies.range_copy.Goals as goal

pub returns-in-None : goal.returns-in-None
returns-in-None c =
    let shard = c.args.shard.now in
    let m = map_of {R = bytes_cmp} c.args.contents.now in
    IfOk-weaker c.between_copy.result _ _ (λ es h. h ∙ part-entries m shard (λ q. is_le (bytes_cmp shard.begin q) && not false) (in_shard-open shard c.in-None.is)) c.between_copy.ensures

pub returns-in-Some : goal.returns-in-Some
returns-in-Some c =
    let shard = c.args.shard.now in
    let end = c.in-Some.end in
    let m = map_of {R = bytes_cmp} c.args.contents.now in
    IfOk-weaker c.between_copy-in-Some.result _ _ (λ es h. h ∙ part-entries m shard (λ q. is_le (bytes_cmp shard.begin q) && not (is_le (bytes_cmp end q))) (in_shard-closed shard end c.in-Some.is)) c.between_copy-in-Some.ensures

pub returns-in-Some-2 : goal.returns-in-Some-2
returns-in-Some-2 c =
    c.new.ensures.items
    ∙ part-inverted (map_of c.args.contents.now) c.args.shard.now c.in-Some.end c.in-Some.is (cc (c.le.ensures, c.if-le.false))
