use Rattle.std.proofs.Common.{◌∙◌}
use Rattle.fr_cli_json.proofs.TextLemmas.{owes_rest, gains_more}
use Rattle.fr_cli_apply.proofs.rows.put_tree.Goals as goal

pub loop-key-preserved : goal.loop-key-preserved
loop-key-preserved g c =
    let owed = rw c.in-Some.ensures.steps at c.loop-key.invariant.owed in
    record {
      can = tt;
      ends = tt;
      owed = owes_rest _ _ _ _ _ _ owed c.in_ok-put_row.ensures.ok;
      calls = c.in_ok-put_row.ensures.done ∙ c.loop-key.invariant.calls;
    }

pub returns-in_err-put_row-clause-front : goal.returns-in_err-put_row-clause-front
returns-in_err-put_row-clause-front g c =
    let owed = rw (c.in-Some.ensures.steps, c.into_iter-key-iterator.ensures.into_iter_gives, c.iter-key-items.ensures.rest) at c.loop-key.invariant.owed in
    gains_more _ _ _ _ _ _ owed c.put_row.ensures.front
