use Rattle.std.proofs.Common.{sym, ◌∙◌}
use Rattle.sqlite.specs.Held.{state}
use Rattle.fr_sql_calls.proofs.StepLemmas.{looks_ok, looks_err}
use Rattle.fr_sql_calls.proofs.WorkLemmas.{get_contents}
use Rattle.fr_sql_calls.proofs.connection.value.Goals as goal

pub returns-in-Ok-clause-looks : goal.returns-in-Ok-clause-looks
returns-in-Ok-clause-looks g c = looks_ok (state g.S.Store c.args.conn.now) (state g.S.Store c.value_at.new.conn) _ c.in-Ok.ensures.open c.value_at.ensures.keeps c.value_at.ensures.survives

pub returns-in-Err-clause-looks : goal.returns-in-Err-clause-looks
returns-in-Err-clause-looks g c =
    looks_err (state g.S.Store c.args.conn.now) (state g.S.Store c.value_at.new.conn) (state g.S.Store c.settle.new.conn) c.settle.result c.value_at.ensures.keeps c.value_at.ensures.survives c.settle.ensures.trouble c.settle.ensures.opened c.settle.ensures.steps

pub returns-in-Ok-clause-value : goal.returns-in-Ok-clause-value
returns-in-Ok-clause-value g c = c.in-Ok.ensures.value ∙ sym (get_contents _ c.args.key.now)
