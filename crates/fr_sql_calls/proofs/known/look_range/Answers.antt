use Rattle.sqlite.specs.Held.{state}
use Rattle.fr_sql_calls.proofs.KnownLemmas.{range_looked}
use Rattle.fr_sql_calls.proofs.known.look_range.Goals as goal

pub returns-clause-looked : goal.returns-clause-looked
returns-clause-looked g c =
    range_looked ((state g.S.Store c.args.conn.now).now.trees 0) c.args.begin.now c.args.end.now c.args.known.now c.add_pairs.new.known c.in_ok-rows.rows.items c.in_ok-rows.ensures.rows c.in_ok-add_pairs.ensures
