use Rattle.std.proofs.Common.{◌≡◌, Some, option_map, sym, ap, ◌∙◌, arith}
use Rattle.std.proofs.lemmas.Slice.Eq.{bytes_eq-Decides}
use Rattle.json.specs.Json.{read_key}
use Rattle.fr_cli_json.specs.Json.{bytes_of}
use Rattle.fr_cli_json.proofs.TokenLemmas.{two_read, two_turned, pair_read}
use Rattle.fr_cli_json.proofs.tokens.read_pair.Goals as goal

pub returns-in_ok-close_object-clause-value : goal.returns-in_ok-close_object-clause-value
returns-in_ok-close_object-clause-value c =
    let k = c.args.first.now in
    let ts = c.open_object.new.reader in
    let s = c.next_key.new.self in
    let same : c.in-Some.name.now ≡ k = (bytes_eq-Decides c.in-Some.name.now k).0 (sym c.eq.ensures ∙ c.if-eq.true) in
    let named : read_key ts ≡ Some (Some k, s) = c.in_ok-name.ensures.value ∙ ap (λ o. Some (option_map (λ x. x.now) o, s)) c.in-Some.is ∙ ap (λ x. Some (Some x, s)) same in
    let l = c.args.second.now in
    let r = c.close_object.new.reader in
    let two = two_read bytes_of bytes_of 121 k l c.requires c.args.reader.now ts s c.read_bytes.new.reader c.take_key.new.reader c.read_bytes-then-eq.new.reader r c.in_ok-one.one c.in_ok-other.other (omega arith) c.in_ok-open_object.ensures named (c.in_ok-one.ensures.value 120) c.in_ok-one.ensures.shorter c.in_ok-take_key.ensures (c.in_ok-other.ensures.value 120) c.in_ok-other.ensures.shorter c.in_ok-close_object.ensures in
    pair_read k l 121 c.args.reader.now r c.in_ok-one.one c.in_ok-other.other two

pub returns-in_ok-close_object-2-clause-value : goal.returns-in_ok-close_object-2-clause-value
returns-in_ok-close_object-2-clause-value c =
    let l = c.args.second.now in
    let ts = c.open_object.new.reader in
    let s = c.next_key.new.self in
    let same : c.in-Some.name.now ≡ l = (bytes_eq-Decides c.in-Some.name.now l).0 (sym c.eq-else-eq.ensures ∙ c.if-eq-2.true) in
    let named : read_key ts ≡ Some (Some l, s) = c.in_ok-name.ensures.value ∙ ap (λ o. Some (option_map (λ x. x.now) o, s)) c.in-Some.is ∙ ap (λ x. Some (Some x, s)) same in
    let k = c.args.first.now in
    let r = c.close_object-then-eq-2.new.reader in
    let two = two_turned bytes_of bytes_of 121 k l c.requires c.args.reader.now ts s c.read_bytes-then-eq-2.new.reader c.take_key-then-eq-2.new.reader c.read_bytes-then-eq-2-2.new.reader r c.in_ok-one-2.one c.in_ok-other-2.other (omega arith) c.in_ok-open_object.ensures named (c.in_ok-other-2.ensures.value 120) c.in_ok-other-2.ensures.shorter c.in_ok-take_key-2.ensures (c.in_ok-one-2.ensures.value 120) c.in_ok-one-2.ensures.shorter c.in_ok-close_object-2.ensures in
    pair_read k l 121 c.args.reader.now r c.in_ok-one-2.one c.in_ok-other-2.other two
