use Rattle.std.proofs.Common.{◌∙◌, sym, subst}
use Rattle.fr_cli_json.specs.Text.{GainsFront}
use Rattle.fr_cli_json.proofs.TextLemmas.{gains_none}
use Rattle.fr_cli_end.specs.Lines.{end_line}
use Rattle.fr_cli_end.proofs.lines.put_end.Goals as goal

pub returns-in_err-line-in-Ok-Some-clause-front : goal.returns-in_err-line-in-Ok-Some-clause-front
returns-in_err-line-in-Ok-Some-clause-front g c = gains_none _ _

pub returns-in-Err-clause-front : goal.returns-in-Err-clause-front
returns-in-Err-clause-front g c =
    subst (λ end. GainsFront (g.W.Write.contents c.args.writer.now) (g.W.Write.contents c.put-in-Err.new.writer) (end_line end)) (sym c.in-Err.is ∙ c.end.ensures) c.put-in-Err.ensures.front
