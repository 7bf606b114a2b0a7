use Rattle.std.proofs.Common.{◌≡◌, ◌↔◌, Err, IfOk, IsTrue, sym, ap, subst}
use Rattle.fr_undo.specs.declared.fault.StoreFault.TheVariants.{Failed}
use Rattle.fr_sql_store.specs.Files.{HoldStore}
use Rattle.fr_sql_files.proofs.sql_file_store.SqlFileStore+D.close.Goals as goal

pub returns-in-Ok-clause-holds : goal.returns-in-Ok-clause-holds
returns-in-Ok-clause-holds g c = subst (λ x. IfOk c.close.result (λ files. ∥ HoldStore g.D.Disk files x ∥₁)) (sym c.in-Ok.ensures.shows) c.close.ensures.holds

pub returns-in-Ok-clause-failed : goal.returns-in-Ok-clause-failed
returns-in-Ok-clause-failed g c = subst (λ b. (c.close.result ≡ Err Failed) ↔ IsTrue b) (sym c.in-Ok.ensures.fails) c.close.ensures.failed

pub returns-in-Err-clause-failed : goal.returns-in-Err-clause-failed
returns-in-Err-clause-failed g c = (λ e. c.in-Err.ensures.failed.1, λ is. ap Err c.in-Err.ensures.failed.0)

pub returns-in-Err-clause-trouble : goal.returns-in-Err-clause-trouble
returns-in-Err-clause-trouble g c = λ apart. absurd (apart c.in-Err.ensures.failed.0)
