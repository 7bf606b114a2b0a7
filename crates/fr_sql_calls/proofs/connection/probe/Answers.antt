use Rattle.sqlite.specs.Held.{state}
use Rattle.fr_sql_calls.proofs.StepLemmas.{steps_of}
use Rattle.fr_sql_calls.proofs.connection.probe.Goals as goal

pub returns-in-Err-clause-steps : goal.returns-in-Err-clause-steps
returns-in-Err-clause-steps g c = steps_of (state g.S.Store c.args.conn.now) (state g.S.Store c.works.new.conn) _ c.works.result c.works.ensures.ok c.works.ensures.err c.works.ensures.survives
