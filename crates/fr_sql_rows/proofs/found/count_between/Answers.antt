use Rattle.std.proofs.Common.{rules}
use Rattle.fr_sql_rows.specs.Found.{IsBetween}
use Rattle.fr_sql_rows.proofs.FoundLemmas.{one_more}
use Rattle.fr_sql_rows.proofs.found.count_between.Goals as goal

pub loop-row-preserved : goal.loop-row-preserved
loop-row-preserved c =
    let it : IsBetween c.args.floor c.args.applied 0 c.row-item.result = search rules in
    one_more (IsBetween c.args.floor c.args.applied 0) c.args.rows.now c.loop-row.row-index c.row-item.result c.loop-row-test.true c.row-item.is c.loop-row.invariant it
