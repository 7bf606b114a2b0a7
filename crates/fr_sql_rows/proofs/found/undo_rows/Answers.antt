use Rattle.std.proofs.Common.{rules}
use Rattle.sqlite.specs.Held.{state}
use Rattle.fr_sql_rows.proofs.FoundLemmas.{undo_found}
use Rattle.fr_sql_rows.proofs.found.undo_rows.Goals as goal

pub returns-clause-undo : goal.returns-clause-undo
returns-clause-undo g c =
    undo_found (state g.S.Store c.args.conn.now).now c.args.floor c.args.applied c.in_ok-rows.rows.items c.as_slice.result.now c.count_between.result c.in_ok-rows.ensures.shown (search rules) c.count_between.ensures.count c.count_between.ensures.between
