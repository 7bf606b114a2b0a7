use Rattle.std.proofs.Common.{subst}
use Rattle.sqlite.specs.Effect.{Database}
use Rattle.sqlite.specs.Held.{state}
use Rattle.fr_sql_rows.specs.Rows.{value_in}
use Rattle.fr_sql_calls.specs.Known.{KnowsOf, has_row}
use Rattle.fr_sql_calls.proofs.CallLemmas.{kept}
use Rattle.fr_sql_calls.proofs.UndoLeads.{leads_back}
use Rattle.fr_sql_calls.proofs.plan.plan_undo.Goals as goal

pub returns-clause-leads : goal.returns-clause-leads
returns-clause-leads g c =
    let db = (state g.S.Store c.args.conn.now).now in
    let s = c.requires.stands in
    let rows = c.in_ok-rows.rows in
    let same = (kept (state g.S.Store c.args.conn.now) (state g.S.Store c.rows_above.new.conn) rows c.in_ok-rows.ensures.looks).now in
    let knows = subst (λ (d : Database). KnowsOf (has_row rows.entries) (value_in (d.trees 0)) c.in_ok-known.known) same c.in_ok-known.ensures.known in
    leads_back c.in_ok-known.known rows c.in_ok-changes.changes db c.args.version c.args.marks.now.applied s.sound s.applied_is c.requires.earlier c.in_ok-rows.ensures.rows knows c.in_ok-changes.ensures.know c.in_ok-changes.ensures.value c.args.marks.now.floor s.laid s.floor_is
