use Rattle.sqlite.specs.Held.{state}
use Rattle.fr_sql_calls.proofs.StepLemmas.{looks_ok, looks_err}
use Rattle.fr_sql_calls.proofs.connection.above.Goals as goal

pub returns-in-Ok-clause-looks : goal.returns-in-Ok-clause-looks
returns-in-Ok-clause-looks g c = looks_ok (state g.S.Store c.args.conn.now) (state g.S.Store c.above.new.conn) _ c.in-Ok.ensures.open c.above.ensures.keeps c.above.ensures.survives

pub returns-in-Err-clause-looks : goal.returns-in-Err-clause-looks
returns-in-Err-clause-looks g c =
    looks_err (state g.S.Store c.args.conn.now) (state g.S.Store c.above.new.conn) (state g.S.Store c.settle.new.conn) c.settle.result c.above.ensures.keeps c.above.ensures.survives c.settle.ensures.trouble c.settle.ensures.opened c.settle.ensures.steps
