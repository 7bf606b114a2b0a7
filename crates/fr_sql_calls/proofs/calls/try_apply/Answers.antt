use Rattle.std.proofs.Common.{sym, subst}
use Rattle.sqlite.specs.Effect.{Database}
use Rattle.sqlite.specs.Held.{state}
use Rattle.fr_sql_calls.specs.Work.{Fits}
use Rattle.fr_undo.specs.Undo.{extended}
use Rattle.fr_sql_calls.specs.Tables.{state_in}
use Rattle.fr_sql_calls.specs.Calls.{LeadsTo}
use Rattle.fr_sql_calls.proofs.CallLemmas.{kept, stands_read, looked_then}
use Rattle.fr_sql_calls.proofs.calls.try_apply.Goals as goal

pub write-requires-clause-stands : goal.write-requires-clause-stands
write-requires-clause-stands g c = stands_read (state g.S.Store c.args.conn.now) (state g.S.Store c.plan_apply.new.conn) c.in_ok-work.work _ _ _ c.in_ok-work.ensures.looks c.requires.stands

pub write-requires-clause-fits : goal.write-requires-clause-fits
write-requires-clause-fits g c =
    let same = (kept (state g.S.Store c.args.conn.now) (state g.S.Store c.plan_apply.new.conn) c.in_ok-work.work c.in_ok-work.ensures.looks).now in
    subst (Fits c.in_ok-work.work) (sym same) c.in_ok-work.ensures.leads.fits

pub returns : goal.returns
returns g c =
    let a = state g.S.Store c.args.conn.now in
    let b = state g.S.Store c.plan_apply.new.conn in
    let looks = c.in_ok-work.ensures.looks in
    let same = (kept a b c.in_ok-work.work looks).now in
    let after = extended (state_in a.now.trees) c.args.version c.args.batch.now in
    let leads = subst (λ (d : Database). LeadsTo c.in_ok-work.work d after) (sym same) c.in_ok-work.ensures.leads in
    record { makes = looked_then a b (state g.S.Store c.write.new.conn) c.in_ok-work.work after c.write.result looks (c.write.ensures.makes after leads) }
