use Rattle.std.proofs.Common.{◌≡◌, ◌≢◌, length, codes, Some, None, option_map, ap, ◌∙◌, arith}
use Rattle.json.specs.Json.{read_key}
use Rattle.json.proofs.Grammar.{read_key-shorter}
use Rattle.fr_cli_json.specs.Json.{version_of}
use Rattle.fr_cli_json.specs.Mutations.{batch_of}
use Rattle.fr_cli_json.proofs.TokenLemmas.{two_read, two_turned}
use Rattle.fr_cli_apply.proofs.ScriptLemmas.{apply_read}
use Rattle.fr_cli_apply.proofs.script.tokens.read_apply.Goals as goal

apart : codes "version" ≢ codes "batch"
apart e =
    let longer : 7 ≡ 5 = ap length e in
    omega (arith, longer)

pub returns-in_ok-close_object-in-version-clause-value : goal.returns-in_ok-close_object-in-version-clause-value
returns-in_ok-close_object-in-version-clause-value c =
    let ts = c.open_object.new.reader in
    let s = c.next_key.new.self in
    let r = c.close_object.new.reader in
    let version = c.in_ok-version-in-version in
    let batch = c.in_ok-batch-in-version in
    let named : read_key ts ≡ Some (Some (codes "version"), s) = c.in_ok-name.ensures.value ∙ ap (λ o. Some (option_map (λ x. x.now) o, s)) c.in-Some.is ∙ ap (λ x. Some (Some x, s)) c.in-version.is in
    let two = two_read version_of batch_of 124 (codes "version") (codes "batch") apart c.args.reader.now ts s c.read_version.new.reader c.take_key.new.reader c.read_batch.new.reader r version.version batch.batch (omega arith) c.in_ok-open_object.ensures named (version.ensures.value 123) version.ensures.shorter c.in_ok-take_key-in-version.ensures batch.ensures.value batch.ensures.shorter c.in_ok-close_object-in-version.ensures in
    apply_read 124 c.args.reader.now r version.version batch.batch two

pub returns-in_ok-close_object-in-batch-clause-value : goal.returns-in_ok-close_object-in-batch-clause-value
returns-in_ok-close_object-in-batch-clause-value c =
    let ts = c.open_object.new.reader in
    let s = c.next_key.new.self in
    let r = c.close_object-in-batch.new.reader in
    let version = c.in_ok-version-in-batch in
    let batch = c.in_ok-batch-in-batch in
    let named : read_key ts ≡ Some (Some (codes "batch"), s) = c.in_ok-name.ensures.value ∙ ap (λ o. Some (option_map (λ x. x.now) o, s)) c.in-Some.is ∙ ap (λ x. Some (Some x, s)) c.in-batch.is in
    let two = two_turned version_of batch_of 124 (codes "version") (codes "batch") apart c.args.reader.now ts s c.read_batch-in-batch.new.reader c.take_key-in-batch.new.reader c.read_version-in-batch.new.reader r version.version batch.batch (omega arith) c.in_ok-open_object.ensures named batch.ensures.value batch.ensures.shorter c.in_ok-take_key-in-batch.ensures (version.ensures.value 123) version.ensures.shorter c.in_ok-close_object-in-batch.ensures in
    apply_read 124 c.args.reader.now r version.version batch.batch two

pub returns-in_ok-close_object-in-batch-clause-shorter : goal.returns-in_ok-close_object-in-batch-clause-shorter
returns-in_ok-close_object-in-batch-clause-shorter c =
    let ts = c.open_object.new.reader in
    let s = c.next_key.new.self in
    let named : read_key ts ≡ Some (Some (codes "batch"), s) = c.in_ok-name.ensures.value ∙ ap (λ o. Some (option_map (λ x. x.now) o, s)) c.in-Some.is ∙ ap (λ x. Some (Some x, s)) c.in-batch.is in
    let first = read_key-shorter ts (Some (codes "batch")) s named in
    let second = read_key-shorter c.read_batch-in-batch.new.reader (Some (codes "version")) c.take_key-in-batch.new.reader c.in_ok-take_key-in-batch.ensures in
    let last = read_key-shorter c.read_version-in-batch.new.reader None c.close_object-in-batch.new.reader c.in_ok-close_object-in-batch.ensures in
    omega (arith, ap length c.in_ok-open_object.ensures, first, second, last, c.in_ok-batch-in-batch.ensures.shorter, c.in_ok-version-in-batch.ensures.shorter)
