use Rattle.sqlite.specs.Held.{state}
use Rattle.fr_sql_calls.proofs.LeadLemmas.{leads_bytes}
use Rattle.fr_sql_calls.proofs.calls.try_set_state.Goals as goal

pub write-requires-clause-fits : goal.write-requires-clause-fits
write-requires-clause-fits g c =
    let db = (state g.S.Store c.args.conn.now).now in
    let s = c.requires.stands in
    let none = c.new.ensures.empty in
    (leads_bytes c.new.result db c.args.bytes none s.laid).fits

pub returns : goal.returns
returns g c =
    let db = (state g.S.Store c.args.conn.now).now in
    let s = c.requires.stands in
    let none = c.new.ensures.empty in
    record { makes = c.write.ensures.makes _ (leads_bytes c.new.result db c.args.bytes none s.laid) }
