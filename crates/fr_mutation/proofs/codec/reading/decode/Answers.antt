use Rattle.std.proofs.Common.{Err, refl, ap, ◌∙◌, arith}
use Rattle.std.proofs.lemmas.Result.{err_from_is_err_and}
use Rattle.fr_mutation.specs.declared.codec.fault.DecodeFault.{DecodeFault}
use Rattle.fr_mutation.specs.CodecReading.{decoded}
use Rattle.fr_mutation.proofs.CodecDecode.{decoded_none, faulty_header, faulty_mutation, is_read, is_decoded, something_is_decoded, refuses, lacks, answers, hides_none}
use Rattle.fr_mutation.proofs.CodecLaws.{batch_takes, read_is_spelled}
use Rattle.fr_mutation.proofs.codec.reading.decode.Goals as goal

pub returns-in_err-format-clause-refused : goal.returns-in_err-format-clause-refused
returns-in_err-format-clause-refused c =
    let p = err_from_is_err_and c.from_residual.result c.from_residual.ensures.1 in
    refuses c.from_residual.result (decoded c.args.bytes.now) c.in_err-format.field-0.0 (p.1 ∙ ap (λ (f : DecodeFault). Err f) p.2) (faulty_header c.args.bytes.now c.in_err-format.field-0.0 c.in_err-format.ensures)

pub returns-in_err-format-clause-memory : goal.returns-in_err-format-clause-memory
returns-in_err-format-clause-memory c =
    let p = err_from_is_err_and c.from_residual.result c.from_residual.ensures.1 in
    hides_none c.from_residual.result (decoded c.args.bytes.now) c.in_err-format.field-0.0 (p.1 ∙ ap (λ (f : DecodeFault). Err f) p.2) (faulty_header c.args.bytes.now c.in_err-format.field-0.0 c.in_err-format.ensures) (decoded_none c.args.bytes.now)

pub returns-in_err-rest-clause-refused : goal.returns-in_err-rest-clause-refused
returns-in_err-rest-clause-refused c =
    let p = err_from_is_err_and c.from_residual-in_err-rest.result c.from_residual-in_err-rest.ensures.1 in
    refuses c.from_residual-in_err-rest.result (decoded c.args.bytes.now) c.in_err-rest.field-0.0 (p.1 ∙ ap (λ (f : DecodeFault). Err f) p.2) (faulty_mutation c.args.bytes.now c.in_ok-format.format c.in_ok-format.count c.in_ok-format.front.now c.in_err-rest.field-0.0 c.in_ok-format.ensures c.in_err-rest.ensures)

pub returns-in_err-rest-clause-memory : goal.returns-in_err-rest-clause-memory
returns-in_err-rest-clause-memory c =
    let p = err_from_is_err_and c.from_residual-in_err-rest.result c.from_residual-in_err-rest.ensures.1 in
    hides_none c.from_residual-in_err-rest.result (decoded c.args.bytes.now) c.in_err-rest.field-0.0 (p.1 ∙ ap (λ (f : DecodeFault). Err f) p.2) (faulty_mutation c.args.bytes.now c.in_ok-format.format c.in_ok-format.count c.in_ok-format.front.now c.in_err-rest.field-0.0 c.in_ok-format.ensures c.in_err-rest.ensures) (decoded_none c.args.bytes.now)

pub returns-in_err-mutations-clause-refused : goal.returns-in_err-mutations-clause-refused
returns-in_err-mutations-clause-refused c =
    let p = err_from_is_err_and c.from_residual-in_err-mutations.result c.from_residual-in_err-mutations.ensures.1 in
    lacks c.from_residual-in_err-mutations.result (decoded c.args.bytes.now) (p.1 ∙ ap (λ (f : DecodeFault). Err f) p.2) (something_is_decoded c.args.bytes.now c.in_ok-format.format c.in_ok-format.count c.in_ok-format.front.now c.in_ok-rest.rest.now c.in_ok-format.ensures c.in_ok-rest.ensures)

pub returns-in_err-mutations-clause-memory : goal.returns-in_err-mutations-clause-memory
returns-in_err-mutations-clause-memory c = λ _. something_is_decoded c.args.bytes.now c.in_ok-format.format c.in_ok-format.count c.in_ok-format.front.now c.in_ok-rest.rest.now c.in_ok-format.ensures c.in_ok-rest.ensures

pub within-requires : goal.within-requires
within-requires c =
    let r = is_read c.args.bytes.now c.in_ok-format.format c.in_ok-format.count c.in_ok-format.front.now c.in_ok-rest.rest.now c.in_ok-mutations.mutations.items c.in_ok-format.ensures c.in_ok-rest.ensures c.in_ok-mutations.ensures in
    let w = batch_takes c.args.bytes.now (c.in_ok-mutations.mutations.items, c.in_ok-rest.rest.now) (λ i. omega (arith, c.type_inv.bytes i)) r in
    w.1

pub returns-in_err-batch-clause-refused : goal.returns-in_err-batch-clause-refused
returns-in_err-batch-clause-refused c =
    let p = err_from_is_err_and c.from_residual-in_err-batch.result c.from_residual-in_err-batch.ensures.1 in
    lacks c.from_residual-in_err-batch.result (decoded c.args.bytes.now) (p.1 ∙ ap (λ (f : DecodeFault). Err f) p.2) (something_is_decoded c.args.bytes.now c.in_ok-format.format c.in_ok-format.count c.in_ok-format.front.now c.in_ok-rest.rest.now c.in_ok-format.ensures c.in_ok-rest.ensures)

pub returns-in_err-batch-clause-memory : goal.returns-in_err-batch-clause-memory
returns-in_err-batch-clause-memory c = λ _. something_is_decoded c.args.bytes.now c.in_ok-format.format c.in_ok-format.count c.in_ok-format.front.now c.in_ok-rest.rest.now c.in_ok-format.ensures c.in_ok-rest.ensures

pub overflow_sub-result : goal.overflow_sub-result
overflow_sub-result c =
    let r = is_read c.args.bytes.now c.in_ok-format.format c.in_ok-format.count c.in_ok-format.front.now c.in_ok-rest.rest.now c.in_ok-mutations.mutations.items c.in_ok-format.ensures c.in_ok-rest.ensures c.in_ok-mutations.ensures in
    let s = read_is_spelled c.args.bytes.now (c.in_ok-mutations.mutations.items, c.in_ok-rest.rest.now) (λ i. omega (arith, c.type_inv.bytes i)) r in
    omega (arith, s.0)

pub returns-clause-ok : goal.returns-clause-ok
returns-clause-ok c =
    let r = is_read c.args.bytes.now c.in_ok-format.format c.in_ok-format.count c.in_ok-format.front.now c.in_ok-rest.rest.now c.in_ok-mutations.mutations.items c.in_ok-format.ensures c.in_ok-rest.ensures c.in_ok-mutations.ensures in
    rw c.in_ok-batch.ensures (is_decoded c.args.bytes.now c.in_ok-rest.rest.now c.in_ok-mutations.mutations.items r)

pub returns-clause-spelled : goal.returns-clause-spelled
returns-clause-spelled c =
    let r = is_read c.args.bytes.now c.in_ok-format.format c.in_ok-format.count c.in_ok-format.front.now c.in_ok-rest.rest.now c.in_ok-mutations.mutations.items c.in_ok-format.ensures c.in_ok-rest.ensures c.in_ok-mutations.ensures in
    let s = read_is_spelled c.args.bytes.now (c.in_ok-mutations.mutations.items, c.in_ok-rest.rest.now) (λ i. omega (arith, c.type_inv.bytes i)) r in
    rw c.in_ok-batch.ensures (omega arith, s.1)

pub returns-clause-refused : goal.returns-clause-refused
returns-clause-refused c =
    let r = is_read c.args.bytes.now c.in_ok-format.format c.in_ok-format.count c.in_ok-format.front.now c.in_ok-rest.rest.now c.in_ok-mutations.mutations.items c.in_ok-format.ensures c.in_ok-rest.ensures c.in_ok-mutations.ensures in
    rw c.in_ok-batch.ensures (answers _ (decoded c.args.bytes.now) _ refl (is_decoded c.args.bytes.now c.in_ok-rest.rest.now c.in_ok-mutations.mutations.items r))
