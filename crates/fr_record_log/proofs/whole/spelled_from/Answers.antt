use Rattle.std.proofs.Common.{◌∷◌, [], ◌++◌, map, ◌∙◌, ap}
use Rattle.fr_record.specs.Group.{records_of}
use Rattle.fr_record_log.specs.Spelling.{spelled_seeded}
use Rattle.fr_record_log.specs.Spelled.{spelled_tag, spelled_stop}
use Rattle.fr_record_log.proofs.Putting.{all_of}
use Rattle.fr_record_log.proofs.whole.spelled_from.Goals as goal

pub put_pushes-requires-clause-numbers : goal.put_pushes-requires-clause-numbers
put_pushes-requires-clause-numbers c = c.deref.ensures.value ∙ c.in_ok-numbers.ensures

pub returns-clause-records : goal.returns-clause-records
returns-clause-records c =
    let r1 = records_of c.push.new.self.items in
    let r2 = records_of c.put_records.new.group.items in
    let r3 = records_of c.put_pushes.new.group.items in
    let r4 = records_of c.put_tags.new.group.items in
    let r5 = records_of c.put_lock.new.group.items in
    all_of c.args.log.now c.args.seed.now r1 r2 r3 r4 r5 c.requires.seed
    (ap records_of (c.in_ok-push.ensures.items ∙ ap (λ xs. xs ++ c.in_ok-head.field-0 ∷ []) c.new-group.ensures.items) ∙ ap (λ x. x ∷ []) c.in_ok-head.ensures.bytes)
    (c.in_ok-put_records.ensures.records ∙ ap (λ rs. r1 ++ map spelled_seeded rs) c.records.ensures.value)
    c.in_ok-put_pushes.ensures.records
    (c.in_ok-put_tags.ensures.records ∙ ap (λ ts. r3 ++ map spelled_tag ts) (c.as_slice.ensures ∙ c.popped.ensures.value))
    (c.in_ok-put_lock.ensures.records ∙ ap (λ b. r4 ++ spelled_stop b) c.stopped.ensures.value)
