use Rattle.std.proofs.Common.{IfOk, subst}
use Rattle.fr_sql_store.specs.Files.{HoldStore}
use Rattle.fr_cli_apply_sql.proofs.db.show_and_shut.Goals as goal

pub returns-in-Ok-clause-holds : goal.returns-in-Ok-clause-holds
returns-in-Ok-clause-holds g c = subst (λ s. IfOk c.shut.result (λ files. ∥ HoldStore g.D.Disk files s ∥₁)) c.in-Ok.ensures.same c.shut.ensures.holds
