use Rattle.fr_cli_apply_sql.proofs.DbLemmas.{printed_then, kept_by}
use Rattle.fr_cli_apply_sql.proofs.db.apply_and_shut.Goals as goal

pub returns-in-Ok-clause-prints : goal.returns-in-Ok-clause-prints
returns-in-Ok-clause-prints g c = printed_then _ _ _ _ _ _ _ _ c.shut.result c.in-Ok.ensures.prints c.shut.ensures.fault

pub returns-in-Ok-clause-left : goal.returns-in-Ok-clause-left
returns-in-Ok-clause-left g c = kept_by g.D.Disk _ _ _ _ c.shut.result c.in-Ok.ensures.left c.shut.ensures.holds
