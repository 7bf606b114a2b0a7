use Rattle.std.proofs.Common.{◌∙◌}
use Rattle.fr_cli_json.proofs.TextLemmas.{owes_rest, gains_more}
use Rattle.fr_cli_apply.proofs.operations.run_operations.Goals as goal

pub returns-in_err-put_line-clause-front : goal.returns-in_err-put_line-clause-front
returns-in_err-put_line-clause-front g c =
    let owed = rw (c.in-Some.ensures.steps.0, ← c.in_ok-line.ensures.state) at c.loop-operation.invariant.owed in
    let text = c.as_str.ensures.value ∙ c.in_ok-line.ensures.ok in
    gains_more _ _ _ _ _ _ owed (rw text at c.put_line.ensures.front)

pub loop-operation-preserved : goal.loop-operation-preserved
loop-operation-preserved g c =
    let owed = rw (c.in-Some.ensures.steps.0, ← c.in_ok-line.ensures.state) at c.loop-operation.invariant.owed in
    let text = c.as_str.ensures.value ∙ c.in_ok-line.ensures.ok in
    record {
      owed = owes_rest _ _ _ _ _ _ owed (rw text at c.in_ok-put_line.ensures.ok);
      left = rw (c.in-Some.ensures.steps.0, ← c.in_ok-line.ensures.state) at c.loop-operation.invariant.left;
      calls = c.in_ok-put_line.ensures.done ∙ c.loop-operation.invariant.calls;
    }
