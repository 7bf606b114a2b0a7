use Rattle.std.proofs.Common.{rules}
use Rattle.sqlite.specs.Held.{state}
use Rattle.fr_sql_rows.specs.Connection.{IsBegun}
use Rattle.fr_sql_rows.proofs.MetaWrites.{laid_out}
use Rattle.fr_sql_rows.proofs.schema.fill.Goals as goal

pub returns-clause-laid : goal.returns-clause-laid
returns-clause-laid g c =
    let begun : IsBegun (state g.S.Store c.begin_meta.new.tx.conn.now).now = search rules in
    laid_out (state g.S.Store c.begin_meta.new.tx.conn.now).now begun
