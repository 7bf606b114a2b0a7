use Rattle.std.proofs.lemmas.Result.{err_from_is_err_and}
use Rattle.std.proofs.Common.{◌≡◌, ◌||◌, sym, ap, ◌∙◌}
use Rattle.fr_mutation.specs.CodecFormat.{is_compare_and_clear}
use Rattle.fr_mutation.specs.CodecFields.{lent_mutation}
use Rattle.fr_mutation.specs.CodecReading.{mutations_at, found_in}
use Rattle.fr_mutation.proofs.CodecMutations.{kind_tells}
use Rattle.fr_mutation.proofs.CodecLoops.{skips_first, skips_on, skips_end, skips_done}
use Rattle.fr_mutation.proofs.codec.reading.skip_mutations.Goals as goal
use Rattle.fr_mutation.proofs.codec.reading.skip_mutations.Goals.{then-found, else-found}

pub returns-in_err-fields : goal.returns-in_err-fields
returns-in_err-fields c =
    let p = err_from_is_err_and c.from_residual.result c.from_residual.ensures.1 in
    rw (p.1, p.2) (skips_end c.args.format c.args.count c.loop.counter c.loop.found c.loop.rest.now c.in_err-fields.field-0.0 (found_in (mutations_at c.args.format c.args.count c.args.bytes.now)) c.loop-test.true c.in_err-fields.ensures c.loop.invariant)

pub loop-init : goal.loop-init
loop-init c = skips_first c.args.format c.args.count c.args.bytes.now

pub loop-preserved : goal.loop-preserved
loop-preserved c =
    let fields = c.in_ok-fields.fields in
    let one = is_compare_and_clear (lent_mutation fields) in
    let tells = kind_tells fields.kind fields.first.now fields.second.now in
    let more = skips_on c.args.format c.args.count c.loop.counter c.loop.found c.loop.rest.now c.in_ok-fields.after.now (lent_mutation fields) (found_in (mutations_at c.args.format c.args.count c.args.bytes.now)) c.loop-test.true c.in_ok-fields.ensures c.loop.invariant in
    let found : c.if-found.found ≡ (c.loop.found || one) =
    elim c.if-found.branch [
      | then-found w ↦ w.found-is ∙ w.if-found.true ∙ sym (ap (λ b. b || one) w.if-found.true)
      | else-found w ↦ w.found-is ∙ w.is_compare_and_clear-found.ensures ∙ sym tells ∙ sym (ap (λ b. b || one) w.if-found.false)
    ] in
    rw found more

pub returns : goal.returns
returns c = skips_done c.args.format c.args.count c.loop.counter c.loop.found c.loop.rest.now (found_in (mutations_at c.args.format c.args.count c.args.bytes.now)) c.loop-test.false c.loop.invariant
