use Rattle.std.proofs.Common.{ap, ◌∙◌, subst, codes, arith}
use Rattle.json.specs.Lex.{tokens}
use Rattle.fr_cli_json.specs.Tokens.{Gives}
use Rattle.fr_cli_json.proofs.TokenLemmas.{member_read}
use Rattle.fr_cli_end.specs.Script.{replies_from, replies_in}
use Rattle.fr_cli_end.proofs.ScriptLemmas.{text_read}
use Rattle.fr_cli_end.proofs.tokens.read_script.Goals as goal

pub returns-in-None : goal.returns-in-None
returns-in-None c =
    let replies = c.in_ok-replies.replies.items in
    let rest = c.close_object.new.reader in
    let whole =
    member_read 127 (codes "replies") _ c.open_object.new.reader c.take_key.new.reader c.read_replies.new.reader rest replies replies_in (omega arith)
    c.in_ok-open_object.ensures c.in_ok-take_key.ensures c.in_ok-replies.ensures.value c.in_ok-replies.ensures.shorter c.in_ok-close_object.ensures in
    let all = c.in_ok-reader.ensures.ok ∙ ap tokens c.in-Ok.ensures.cases.0 in
    text_read c.args.input.now rest replies c.in-Ok.ensures.cases.1 (subst (λ ts. Gives replies_from 127 ts replies rest) all whole) c.in-None.ensures.value.0
