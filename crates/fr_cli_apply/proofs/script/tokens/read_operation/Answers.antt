use Rattle.std.proofs.Common.{◌≡◌, length, Some, None, option_map, ap, ◌∙◌, arith}
use Rattle.json.specs.Json.{read_key}
use Rattle.json.proofs.Grammar.{read_key-shorter}
use Rattle.fr_cli_apply.specs.Script.{operation_named}
use Rattle.fr_cli_json.proofs.TokenLemmas.{named_read}
use Rattle.fr_cli_apply.proofs.script.tokens.read_operation.Goals as goal

pub returns-clause-value : goal.returns-clause-value
returns-clause-value c =
    let k = c.in-Some.name.now in
    let ts = c.open_object.new.reader in
    let s = c.next_key.new.self in
    let named : read_key ts ≡ Some (Some k, s) = c.in_ok-name.ensures.value ∙ ap (λ o. Some (option_map (λ x. x.now) o, s)) c.in-Some.is in
    named_read 125 k c.args.reader.now ts s c.read_named.new.reader c.close_object.new.reader _ operation_named (omega arith) c.in_ok-open_object.ensures named c.in_ok-operation.ensures.value c.in_ok-operation.ensures.shorter c.in_ok-close_object.ensures

pub returns-clause-shorter : goal.returns-clause-shorter
returns-clause-shorter c =
    let k = c.in-Some.name.now in
    let ts = c.open_object.new.reader in
    let s = c.next_key.new.self in
    let named : read_key ts ≡ Some (Some k, s) = c.in_ok-name.ensures.value ∙ ap (λ o. Some (option_map (λ x. x.now) o, s)) c.in-Some.is in
    let less = read_key-shorter ts (Some k) s named in
    let last = read_key-shorter c.read_named.new.reader None c.close_object.new.reader c.in_ok-close_object.ensures in
    omega (arith, ap length c.in_ok-open_object.ensures, less, last, c.in_ok-operation.ensures.shorter)
