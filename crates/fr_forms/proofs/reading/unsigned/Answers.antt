use Rattle.std.proofs.Common.{◌<◌, ◌^◌, subst, ne_eqb}
use Rattle.std.specs.Prelude.{SomeIff}
use Rattle.fast_float.specs.Text.{digits_of, IsInteger}
use Rattle.fr_cli_json.proofs.TokenLemmas.{digits_found}
use Rattle.fr_forms.proofs.reading.unsigned.Goals as goal

pub returns : goal.returns
returns c =
    let s = c.args.digits.now in
    let o = c.to_u64.result in
    digits_found s o (ne_eqb _ 45 c.if-digits-eq45.false) (subst (λ p. SomeIff o (IsInteger p × (digits_of p < 2 ^ 64)) (digits_of p)) c.scan.ensures.parts c.to_u64.ensures)
