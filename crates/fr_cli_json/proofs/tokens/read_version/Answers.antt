use Rattle.std.proofs.Common.{rules, ◌≡◌, ℕ, ◌^◌, Option, Some, None, nat_lt, if◌then◌else◌}
use Rattle.fr_cli_json.specs.Json.{natural_of}
use Rattle.fr_cli_json.proofs.TokenLemmas.{given_by}
use Rattle.fr_cli_json.proofs.tokens.read_version.Goals as goal

pub returns-in-Some-clause-value : goal.returns-in-Some-clause-value
returns-in-Some-clause-value c =
    let below : ℕ → Option ℕ = λ n. if nat_lt n (2 ^ 62) then Some n else None in
    let n = c.in_ok-read_number.field-0 in
    let fits : below n ≡ Some c.in-Some.version = search rules in
    λ depth. given_by natural_of below depth c.args.reader.now c.read_number.new.reader n c.in-Some.version (c.in_ok-read_number.ensures.value depth) fits
