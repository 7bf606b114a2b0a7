use Rattle.std.proofs.Common.{◌≡◌, length, [], Some, sym, ap, ◌∙◌, arith, append-nil}
use Rattle.fr_cli_json.proofs.JsonLemmas.{joined}
use Rattle.fr_cli_json.proofs.HexLemmas.{unhex_pairs, one_pair_more, no_pair, one_left, in_pairs}
use Rattle.fr_cli_json.proofs.hex_text.bytes_in.Goals as goal

pub returns-then-high-gt15 : goal.returns-then-high-gt15
returns-then-high-gt15 c =
    let front = c.loop-rest.bytes.items in
    sym (no_pair front c.loop-rest.rest.now c.digit_in-high.result c.digit_in-low.result c.in-len2-up.len_at_least c.digit_in-high.ensures c.digit_in-low.ensures c.then-high-gt15.either) ∙ sym c.loop-rest.invariant ∙ unhex_pairs c.args.text.now

pub loop-rest-preserved : goal.loop-rest-preserved
loop-rest-preserved c =
    one_pair_more c.loop-rest.bytes.items c.loop-rest.rest.now c.digit_in-high.result c.digit_in-low.result c.in-len2-up.len_at_least c.digit_in-high.ensures c.digit_in-low.ensures (in_pairs c.args.text.now) c.push.new.self.items c.if-high-gt15.false c.if-low-gt15.false c.in_ok-push.ensures.items c.loop-rest.invariant

pub returns-then-is_empty : goal.returns-then-is_empty
returns-then-is_empty c =
    let ended : c.loop-rest.rest.now ≡ [] = grind arith in
    let front = c.loop-rest.bytes.items in
    ap Some (sym (append-nil front)) ∙ sym (ap (λ xs. joined front (in_pairs xs)) ended) ∙ sym c.loop-rest.invariant ∙ unhex_pairs c.args.text.now

pub returns-else-is_empty : goal.returns-else-is_empty
returns-else-is_empty c =
    let front = c.loop-rest.bytes.items in
    let one : length c.loop-rest.rest.now ≡ 1 = grind arith in
    sym (one_left front c.loop-rest.rest.now one) ∙ sym c.loop-rest.invariant ∙ unhex_pairs c.args.text.now
