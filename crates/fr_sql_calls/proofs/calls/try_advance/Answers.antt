use Rattle.sqlite.specs.Held.{state}
use Rattle.fr_sql_calls.proofs.LeadLemmas.{leads_on}
use Rattle.fr_sql_calls.proofs.calls.try_advance.Goals as goal

pub write-requires-clause-fits : goal.write-requires-clause-fits
write-requires-clause-fits g c =
    let db = (state g.S.Store c.args.conn.now).now in
    let s = c.requires.stands in
    let none = c.new.ensures.empty in
    (leads_on c.new.result db c.args.version c.args.marks.now.floor none s.laid s.floor_is).fits

pub returns : goal.returns
returns g c =
    let db = (state g.S.Store c.args.conn.now).now in
    let s = c.requires.stands in
    let none = c.new.ensures.empty in
    record { makes = c.write.ensures.makes _ (leads_on c.new.result db c.args.version c.args.marks.now.floor none s.laid s.floor_is) }
