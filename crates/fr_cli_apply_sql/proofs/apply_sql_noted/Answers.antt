use Rattle.fr_cli_apply_sql.proofs.apply_sql_noted.Goals as goal

pub returns-in-Ok-create-clause-prints : goal.returns-in-Ok-create-clause-prints
returns-in-Ok-create-clause-prints g c = rw c.in-Ok-create.ensures.empty at c.apply_noted_on.ensures.prints
