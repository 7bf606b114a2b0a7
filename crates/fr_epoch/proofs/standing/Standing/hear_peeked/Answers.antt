use Rattle.std.proofs.Common.{rules, ap, ◌∙◌}
use Rattle.std.specs.Option.{option_map}
use Rattle.fr_epoch.specs.Standing.{phase_of, parent_of, plan_in, state_of}
use Rattle.fr_epoch.proofs.Planned.{completed_asks}
use Rattle.fr_epoch.proofs.standing.Standing.hear_peeked.Goals as goal

pub returns-in_ok-asks-clause-asks : goal.returns-in_ok-asks-clause-asks
returns-in_ok-asks-clause-asks c =
    let r = state_of c.args.self.now in
    let law = completed_asks r c.args.epoch c.args.index (parent_of c.in-Some.found) (plan_in c.in-Some-plan.draft) c.args.peeked (ap phase_of c.requires.copying)
    (ap (option_map parent_of) c.in-Some.is) (ap (option_map plan_in) c.in-Some-plan.is) (search rules) (let a = c.complete.ensures.value in let b = c.if-complete.false in cc (a, b))
    (let a = c.completes.ensures in let b = c.if-completes.true in cc (a, b)) in
    c.in_ok-asks.ensures ∙ (let a = c.in_ok-take.ensures.ok in let b = c.in_ok-tail.ensures in let d = c.as_slice.ensures.value in cc (a, b, d, law))
