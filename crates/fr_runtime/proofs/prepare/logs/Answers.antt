use Rattle.fr_runtime.proofs.Rows.{counted, one_more_log}
use Rattle.fr_runtime.proofs.prepare.logs.Goals as goal

pub loop-index-preserved : goal.loop-index-preserved
loop-index-preserved g c =
    let grows = c.in_ok-put.ensures in
    let before = c.loop-index.invariant in
    record {
      number = counted c.loop-index.all.items c.put.new.all.items c.in_ok-log.log c.loop-index.index grows before.number;
      named = one_more_log (λ log. log.place) c.loop-index.all.items c.put.new.all.items c.in_ok-log.log 257 c.loop-index.index grows before.named c.in_ok-log.ensures.place before.number;
    }
