use Rattle.fr_cli_json.proofs.TextLemmas.{gains_none}
use Rattle.fr_cli_apply.proofs.rows.put_row.Goals as goal

pub returns-in_err-make_line-clause-front : goal.returns-in_err-make_line-clause-front
returns-in_err-make_line-clause-front g c = gains_none _ _
