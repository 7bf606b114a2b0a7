use Rattle.fr_cli_apply_sql.proofs.DbLemmas.{held}
use Rattle.fr_cli_apply_sql.proofs.db.opened.Goals as goal

pub returns-in-Ok-clause-found : goal.returns-in-Ok-clause-found
returns-in-Ok-clause-found g c = held g.D.Disk c.args.files _ c.in-Ok.ensures.found c.in-Ok.ensures.made
