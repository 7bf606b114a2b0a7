use Rattle.std.proofs.Common.{◌∙◌}
use Rattle.fr_runtime.proofs.Rows.{counted, one_more_cell}
use Rattle.fr_runtime.proofs.prepare.cells.Goals as goal

pub loop-index-preserved : goal.loop-index-preserved
loop-index-preserved g c =
    let grows = c.in_ok-put.ensures in
    let before = c.loop-index.invariant in
    let place = c.new.ensures.place ∙ c.new-housed.ensures.place in
    record {
      number = counted c.loop-index.all.items c.put.new.all.items c.new.result c.loop-index.index grows before.number;
      named = one_more_cell (λ cell. cell.place) c.loop-index.all.items c.put.new.all.items c.new.result c.loop-index.index grows before.named place before.number;
    }
