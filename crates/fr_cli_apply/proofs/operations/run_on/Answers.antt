use Rattle.std.proofs.lemmas.Result.{on_ok_weaker}
use Rattle.fr_cli_apply.proofs.RowLemmas.{rows_last, front_last}
use Rattle.fr_cli_apply.proofs.operations.run_on.Goals as goal

pub returns-clause-ok : goal.returns-clause-ok
returns-clause-ok g c =
    on_ok_weaker c.put_contents.result (λ written. rows_last _ _ _ _ _ c.in_ok-run_operations.ensures.ok written) c.put_contents.ensures.ok

pub returns-clause-front : goal.returns-clause-front
returns-clause-front g c =
    front_last _ _ _ _ _ c.in_ok-run_operations.ensures.ok c.put_contents.ensures.front
