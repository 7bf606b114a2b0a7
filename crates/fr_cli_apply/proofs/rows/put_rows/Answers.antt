use Rattle.std.proofs.Common.{◌∙◌, ◌≡◌, [], arith}
use Rattle.std.proofs.lemmas.Grind.{common_steps}
use Rattle.fr_cli_json.proofs.TextLemmas.{owes_rest, owes_none, gains_more}
use Rattle.fr_cli_apply.proofs.rows.put_rows.Goals as goal

pub returns-in_err-put_row-clause-front : goal.returns-in_err-put_row-clause-front
returns-in_err-put_row-clause-front g c =
    let owed = rw c.in-Some.ensures.steps.0 at c.loop-key.invariant.owed in
    gains_more _ _ _ _ _ _ owed c.put_row.ensures.front

pub loop-key-preserved : goal.loop-key-preserved
loop-key-preserved g c =
    let owed = rw c.in-Some.ensures.steps.0 at c.loop-key.invariant.owed in
    record {
      owed = owes_rest _ _ _ _ _ _ owed c.in_ok-put_row.ensures.ok;
      calls = c.in_ok-put_row.ensures.done ∙ c.loop-key.invariant.calls;
    }

pub returns-clause-ok : goal.returns-clause-ok
returns-clause-ok g c =
    let ended : c.loop-key.key-iterator.rest.items ≡ [] = grind (arith, common_steps) in
    owes_none _ _ _ (rw ended at c.loop-key.invariant.owed)
