use Rattle.std.proofs.Common.{◌≡◌, ◌-◌, ap, ◌∙◌, length, take, drop, ne_eqb, arith}
use Rattle.std.proofs.lemmas.List.{take_all, length-drop}
use Rattle.std.specs.Float.{float_is_finite}
use Rattle.fast_float.specs.Text.{scan}
use Rattle.fr_forms.proofs.PieceLemmas.{signed_in_range, plain_in_range}
use Rattle.fr_forms.proofs.reading.is_in_range.Goals as goal

pub returns-then-digits-eq45 : goal.returns-then-digits-eq45
returns-then-digits-eq45 c holds =
    let s = c.args.digits.now in
    let len = length-drop 1 s in
    let rest : take (length s - 1) (drop 1 s) ≡ drop 1 s = take_all (length s - 1) (drop 1 s) (omega (arith, len)) in
    signed_in_range s c.scan.result c.is_finite.result c.if-digits-eq45.true (c.scan.ensures.parts ∙ ap scan rest) (c.is_finite.ensures.value ∙ ap float_is_finite c.to_float.ensures) holds

pub returns-else-digits-eq45 : goal.returns-else-digits-eq45
returns-else-digits-eq45 c holds =
    plain_in_range c.args.digits.now c.scan-else-digits-eq45.result c.is_finite-else-digits-eq45.result (ne_eqb _ 45 c.if-digits-eq45.false) c.scan-else-digits-eq45.ensures.parts (c.is_finite-else-digits-eq45.ensures.value ∙ ap float_is_finite c.to_float-else-digits-eq45.ensures) holds
