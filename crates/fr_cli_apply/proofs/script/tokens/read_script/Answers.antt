use Rattle.std.proofs.Common.{ap, ◌∙◌, subst}
use Rattle.json.specs.Lex.{tokens}
use Rattle.fr_cli_apply.specs.Plan.{plan_from}
use Rattle.fr_cli_json.specs.Tokens.{Gives}
use Rattle.fr_cli_apply.proofs.ScriptLemmas.{script_read}
use Rattle.fr_cli_apply.proofs.script.tokens.read_script.Goals as goal

pub returns-in-None : goal.returns-in-None
returns-in-None c =
    let script = c.in_ok-operations.operations.items in
    let rest = c.read_whole.new.reader in
    let all = c.in_ok-reader.ensures.ok ∙ ap tokens c.in-Ok.ensures.cases.0 in
    script_read c.args.input.now rest script c.in-Ok.ensures.cases.1 (subst (λ ts. Gives plan_from 127 ts script rest) all c.in_ok-operations.ensures) c.in-None.ensures.value.0
