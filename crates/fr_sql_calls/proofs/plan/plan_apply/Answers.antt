use Rattle.std.proofs.Common.{◌<◌, sym, subst}
use Rattle.sqlite.specs.Held.{state}
use Rattle.fr_sql_rows.specs.Rows.{value_in}
use Rattle.fr_sql_calls.proofs.LeadLemmas.{batch_knows, batch_values, leads_batch}
use Rattle.fr_sql_calls.proofs.plan.plan_apply.Goals as goal

pub returns-clause-leads : goal.returns-clause-leads
returns-clause-leads g c =
    let db = (state g.S.Store c.args.conn.now).now in
    let held = value_in (db.trees 0) in
    let s = c.requires.stands in
    let known = c.in_ok-known.known in
    let changes = c.in_ok-changes.changes in
    let batch = c.args.batch.now in
    let law = c.untouched_law.ensures in
    let later = subst (λ n. n < c.args.version) (sym s.applied_is) c.requires.later in
    leads_batch changes db c.args.version c.args.marks.now.floor batch s.laid s.sound later s.floor_is
    (batch_knows known changes batch held law c.in_ok-known.ensures.known c.in_ok-changes.ensures.know c.in_ok-changes.ensures.values)
    (batch_values known changes batch held law c.in_ok-known.ensures.known c.in_ok-changes.ensures.know c.in_ok-changes.ensures.values)
