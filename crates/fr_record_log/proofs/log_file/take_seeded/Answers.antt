use Rattle.std.proofs.Common.{cond, sym, ◌∙◌, ap}
use Rattle.fr_log.specs.Seeding.{with_seeded}
use Rattle.fr_record_log.proofs.Settling.{settled_seeded}
use Rattle.fr_record_log.proofs.log_file.take_seeded.Goals as goal

pub returns-in-Ok-true-clause-settled : goal.returns-in-Ok-true-clause-settled
returns-in-Ok-true-clause-settled c =
    let l = c.args.log.now in
    let r = c.args.next in
    let takes = sym c.in-Ok-true.ensures.taken ∙ c.in-Ok-true.field-0-test in
    settled_seeded c.letting_law.ensures.unpopped l r c.take_seeded.new.self c.record_within_limits.ensures c.requires c.log_within_limits-in-Ok-true.ensures takes (c.in-Ok-true.ensures.after ∙ ap (λ b. cond b (with_seeded l r) l) takes)
