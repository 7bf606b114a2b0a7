use Rattle.std.proofs.Common.{ap, sym, ◌∙◌}
use Rattle.sqlite.specs.declared.types.Value.TheVariants.{Blob}
use Rattle.fr_sql_rows.proofs.KvReads.{one_pair}
use Rattle.fr_sql_rows.proofs.kv.pairs.Goals as goal

pub loop-row-preserved : goal.loop-row-preserved
loop-row-preserved c =
    let key = c.in_ok-key.ensures.ok.1 ∙ ap Blob (sym c.from_vec.ensures) in
    let value = c.in_ok-value.ensures.ok.1 ∙ ap Blob (sym c.from_vec-in-loop-row.ensures) in
    one_pair c.args.rows.now c.loop-row.row-index c.row-item.result c.from_vec.result c.from_vec-in-loop-row.result c.loop-row.pairs.items _ c.loop-row-test.true c.row-item.is c.loop-row.invariant c.in_ok-push.ensures.items key value
