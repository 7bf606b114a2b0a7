use Rattle.std.proofs.Common.{◌∙◌}
use Rattle.fr_runtime_threads.proofs.Rows.{counted, one_more_log}
use Rattle.fr_runtime_threads.proofs.recovery.fresh_logs.Goals as goal

pub loop-index-preserved : goal.loop-index-preserved
loop-index-preserved g c =
    let grows = c.in_ok-put.ensures in
    let before = c.loop-index.invariant in
    let place = c.new.ensures.place ∙ c.in_ok-log.ensures.place in
    record {
      number = counted c.loop-index.logs.items c.put.new.all.items c.new.result c.loop-index.index grows before.number;
      named = one_more_log (λ log. log.place) c.loop-index.logs.items c.put.new.all.items c.new.result c.args.generation.epoch c.loop-index.index grows before.named place before.number;
    }
