use Rattle.fr_sql_rows.proofs.UndoReads.{one_shown}
use Rattle.fr_sql_rows.proofs.undo.undo_rows.Goals as goal

pub loop-row-preserved : goal.loop-row-preserved
loop-row-preserved c = one_shown c.args.rows.now c.loop-row.row-index c.row-item.result c.in_ok-undo_row.field-0 c.loop-row.shown.items _ c.loop-row-test.true c.row-item.is c.loop-row.invariant c.in_ok-push.ensures.items c.in_ok-undo_row.ensures
