use Rattle.std.proofs.Common.{IfOk, sym, subst}
use Rattle.fr_sql_store.specs.Files.{HoldStore}
use Rattle.fr_sql_store.proofs.FileLemmas.{troubles}
use Rattle.fr_sql_store.proofs.sql_store.files.SqlStore+FileStore+D.close.Goals as goal

pub returns-in-Ok-clause-holds : goal.returns-in-Ok-clause-holds
returns-in-Ok-clause-holds g c = subst (λ x. IfOk c.closed.result (λ files. ∥ HoldStore g.D.Disk files x ∥₁)) (sym c.in-Ok.ensures.committed) c.closed.ensures.holds

pub returns-in-Ok-clause-trouble : goal.returns-in-Ok-clause-trouble
returns-in-Ok-clause-trouble g c = troubles c.closed.result c.closed.ensures.trouble
