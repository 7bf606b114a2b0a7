use Rattle.std.proofs.Common.{rules, ◌≡◌, ℕ, Option, Some, None, nat_lt, if◌then◌else◌}
use Rattle.fr_cli_json.specs.Json.{natural_of}
use Rattle.fr_cli_json.proofs.TokenLemmas.{given_by}
use Rattle.fr_cli_end.proofs.tokens.read_index.Goals as goal

pub returns-in-Ok-clause-value : goal.returns-in-Ok-clause-value
returns-in-Ok-clause-value c =
    let below : ℕ → Option ℕ = λ n. if nat_lt n 256 then Some n else None in
    let n = c.in_ok-read_number.field-0 in
    let fits : below n ≡ Some c.in-Ok.log = search rules in
    λ depth. given_by natural_of below depth c.args.reader.now c.read_number.new.reader n c.in-Ok.log (c.in_ok-read_number.ensures.value depth) fits
