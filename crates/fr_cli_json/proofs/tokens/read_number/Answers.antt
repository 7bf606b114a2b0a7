use Rattle.std.proofs.Common.{rules, ◌≡◌, Some, sym, subst}
use Rattle.serde_json.specs.Data.{number, unsigned}
use Rattle.serde_json.specs.Read.{number_of}
use Rattle.fr_cli_json.specs.Json.{natural_of}
use Rattle.fr_cli_json.specs.Tokens.{BeginsWith}
use Rattle.fr_cli_json.proofs.TokenLemmas.{a_number}
use Rattle.fr_cli_json.proofs.tokens.read_number.Goals as goal

pub returns-in-Some-clause-value : goal.returns-in-Some-clause-value
returns-in-Some-clause-value c =
    let s = c.in_ok-digits.digits.now in
    let r = c.take_number.new.reader in
    let n = c.in-Some.number in
    let is : number_of s ≡ Some (unsigned n) = search rules in
    let fits : natural_of (number (unsigned n)) ≡ Some n = search rules in
    λ depth. (number (unsigned n), subst (λ xs. BeginsWith depth xs (number (unsigned n)) r) (sym c.in_ok-digits.ensures) (a_number depth s (unsigned n) r is), fits)
