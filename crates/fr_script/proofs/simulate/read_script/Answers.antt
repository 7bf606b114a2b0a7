use Rattle.std.proofs.Common.{◌≡◌, Some, subst}
use Rattle.std.specs.Str.{IsUtf8}
use Rattle.serde_json.specs.Read.{read}
use Rattle.fr_cli_json.proofs.JsonLemmas.{data_here}
use Rattle.fr_script.proofs.simulate.read_script.Goals as goal

pub returns-in-Some-clause-json : goal.returns-in-Some-clause-json
returns-in-Some-clause-json c =
    let is = c.as_slice.ensures.value in
    let found = c.in-Ok.ensures.json in
    (found.0, data_here c.args.input.items found.0 (subst IsUtf8 is c.in-Ok.ensures.utf8) (subst (λ text. read text ≡ Some found.0) is found.1))
