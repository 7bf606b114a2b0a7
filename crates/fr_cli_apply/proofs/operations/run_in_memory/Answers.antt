use Rattle.std.proofs.lemmas.Result.{on_ok_weaker}
use Rattle.fr_cli_apply.proofs.RowLemmas.{rows_last, front_last, same_rows}
use Rattle.fr_cli_apply.proofs.operations.run_in_memory.Goals as goal

pub returns-clause-ok : goal.returns-clause-ok
returns-clause-ok g c =
    let is = same_rows _ _ c.rows.ensures c.put_tree.ensures.ordered in
    let owed = rw (is, c.new-store.ensures) at c.in_ok-run_operations.ensures.ok in
    on_ok_weaker c.put_tree.result (λ written. rows_last _ _ _ _ _ owed written) c.put_tree.ensures.ok

pub returns-clause-front : goal.returns-clause-front
returns-clause-front g c =
    let is = same_rows _ _ c.rows.ensures c.put_tree.ensures.ordered in
    let owed = rw (is, c.new-store.ensures) at c.in_ok-run_operations.ensures.ok in
    front_last _ _ _ _ _ owed c.put_tree.ensures.front
