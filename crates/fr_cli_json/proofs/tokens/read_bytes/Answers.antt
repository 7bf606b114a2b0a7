use Rattle.std.proofs.Common.{rules, ◌≡◌, Some, sym, subst}
use Rattle.serde_json.specs.Data.{string}
use Rattle.fr_cli_json.specs.Json.{bytes_of}
use Rattle.fr_cli_json.specs.Tokens.{BeginsWith}
use Rattle.fr_cli_json.proofs.TokenLemmas.{a_string}
use Rattle.fr_cli_json.proofs.tokens.read_bytes.Goals as goal

pub returns-in-Some-clause-value : goal.returns-in-Some-clause-value
returns-in-Some-clause-value c =
    let s = c.in_ok-text.text.now in
    let r = c.take_string.new.reader in
    let decoded : bytes_of (string s) ≡ Some c.from_vec.result = search rules in
    λ depth. (string s, subst (λ xs. BeginsWith depth xs (string s) r) (sym c.in_ok-text.ensures) (a_string depth s r), decoded)
