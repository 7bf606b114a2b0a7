use Rattle.std.proofs.Common.{rules}
use Rattle.sqlite.specs.Held.{state}
use Rattle.fr_sql_rows.proofs.FoundLemmas.{meta_found}
use Rattle.fr_sql_rows.proofs.found.versions.Goals as goal

pub returns-in-Some-clause-meta : goal.returns-in-Some-clause-meta
returns-in-Some-clause-meta g c =
    meta_found (state g.S.Store c.args.conn.now).now c.in_ok-rows.rows.items c.in-Some.row.now c.versions_in.result c.requires.obeys c.in_ok-rows.ensures.shown (search rules) c.versions_in.ensures
