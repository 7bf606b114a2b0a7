use Rattle.std.proofs.Common.{◌<◌, sym, subst}
use Rattle.sqlite.specs.Held.{state}
use Rattle.fr_sql_calls.proofs.LeadLemmas.{leads_forget}
use Rattle.fr_sql_calls.proofs.calls.try_forget.Goals as goal

pub write-requires-clause-fits : goal.write-requires-clause-fits
write-requires-clause-fits g c =
    let db = (state g.S.Store c.args.conn.now).now in
    let s = c.requires.stands in
    let none = c.new.ensures.empty in
    let above = subst (λ n. n < c.args.version) (sym s.floor_is) c.requires.above in
    (leads_forget c.new.result db c.args.version c.args.marks.now.applied none s.laid s.applied_is above).fits

pub returns : goal.returns
returns g c =
    let db = (state g.S.Store c.args.conn.now).now in
    let s = c.requires.stands in
    let none = c.new.ensures.empty in
    let above = subst (λ n. n < c.args.version) (sym s.floor_is) c.requires.above in
    record { makes = c.write.ensures.makes _ (leads_forget c.new.result db c.args.version c.args.marks.now.applied none s.laid s.applied_is above) }
