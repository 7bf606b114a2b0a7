use Rattle.std.proofs.Common.{◌++◌, ◌∙◌, ap}
use Rattle.fr_record_log.proofs.Records.{numbers_more}
use Rattle.fr_record_log.proofs.spelling.put_numbers.Goals as goal

pub returns-clause-bytes : goal.returns-clause-bytes
returns-clause-bytes c =
    numbers_more c.args.out.now.items c.extend_from_slice.new.self.items c.extend_from_slice-2.new.self.items c.extend_from_slice-3.new.self.items c.args.push.now c.get.result c.get-2.result c.get-3.result
    (c.get.ensures.value ∙ c.prev.ensures.value) (c.get-2.ensures.value ∙ c.version.ensures.value) (c.get-3.ensures.value ∙ c.known.ensures.value)
    (c.in_ok-extend_from_slice.ensures.items ∙ ap (λ x. c.args.out.now.items ++ x) c.to_be_bytes.ensures)
    (c.in_ok-extend_from_slice-2.ensures.items ∙ ap (λ x. c.extend_from_slice.new.self.items ++ x) c.to_be_bytes-2.ensures)
    (c.in_ok-extend_from_slice-3.ensures.items ∙ ap (λ x. c.extend_from_slice-2.new.self.items ++ x) c.to_be_bytes-3.ensures)
