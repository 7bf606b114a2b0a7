use Rattle.std.proofs.Common.{sym, ◌∙◌}
use Rattle.std.proofs.lemmas.Result.{err_from_is_err_and}
use Rattle.fr_tags.specs.declared.body.Body.{Body}
use Rattle.fr_record_log.specs.Reading.{bodies_at}
use Rattle.fr_record_log.proofs.Records.{end_is}
use Rattle.fr_record_log.proofs.Loops.{body_found, no_text, no_batch, goes_on, broken, found_all, more_follows}
use Rattle.fr_record_log.proofs.reading.bodies_of.Goals as goal

pub returns-in_err-tag : goal.returns-in_err-tag
returns-in_err-tag c =
    let p = err_from_is_err_and c.from_residual-in_err-tag.result c.from_residual-in_err-tag.ensures.1 in
    rw (p.1, p.2) (λ e. broken c.args.bytes.now c.in_ok-count.count c.in_ok-count.front.now c.in_ok-count.ensures c.loop.bodies.items c.loop.counter c.loop.rest.now c.loop.invariant c.loop-test.true (no_text c.loop.rest.now (c.in_err-tag.ensures.found e)))

pub returns-in_err-batch : goal.returns-in_err-batch
returns-in_err-batch c =
    let p = err_from_is_err_and c.from_residual-in_err-batch.result c.from_residual-in_err-batch.ensures.1 in
    rw (p.1, p.2) (λ e. broken c.args.bytes.now c.in_ok-count.count c.in_ok-count.front.now c.in_ok-count.ensures c.loop.bodies.items c.loop.counter c.loop.rest.now c.loop.invariant c.loop-test.true (no_batch c.loop.rest.now c.in_ok-tag.tag c.in_ok-tag.text.now c.in_ok-tag.after.now c.in_ok-tag.ensures.found (c.in_err-batch.ensures e)))

pub loop-preserved : goal.loop-preserved
loop-preserved c =
    let b : Body = record { tag = c.tag_of-tag.result; batch = c.in_ok-batch.batch } in
    rw c.in_ok-add.ensures.ok (goes_on c.loop.bodies.items c.in_ok-count.count c.loop.counter c.loop.rest.now c.in_ok-tag.after.now b (bodies_at c.in_ok-count.count c.in_ok-count.front.now) c.loop-test.true
    (rw c.tag_of-tag.ensures (body_found c.loop.rest.now c.in_ok-tag.tag c.in_ok-tag.text.now c.in_ok-tag.after.now c.in_ok-batch.batch c.in_ok-tag.ensures.found c.in_ok-batch.ensures)) c.loop.invariant)

pub returns-then-is_empty : goal.returns-then-is_empty
returns-then-is_empty c = found_all c.args.bytes.now c.in_ok-count.count c.in_ok-count.front.now c.in_ok-count.ensures c.loop.bodies.items c.loop.counter c.loop.rest.now c.loop.invariant c.loop-test.false (end_is c.loop.rest.now ∙ sym c.is_empty.ensures ∙ c.if-is_empty.true)

pub returns-else-is_empty : goal.returns-else-is_empty
returns-else-is_empty c = λ e. more_follows c.args.bytes.now c.in_ok-count.count c.in_ok-count.front.now c.in_ok-count.ensures c.loop.bodies.items c.loop.counter c.loop.rest.now c.loop.invariant c.loop-test.false (end_is c.loop.rest.now ∙ sym c.is_empty.ensures ∙ c.if-is_empty.false)
