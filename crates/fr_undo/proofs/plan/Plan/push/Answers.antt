use Rattle.std.proofs.Common.{refl}
use Rattle.fr_undo.proofs.PlanLemmas.{next_absent, next_planned, next_plan}
use Rattle.fr_undo.proofs.plan.Plan.push.Goals as goal

pub returns-in_err-push-clause-absent : goal.returns-in_err-push-clause-absent
returns-in_err-push-clause-absent c = next_absent c.args.self.now c.args.key c.requires.next

pub returns-clause-absent : goal.returns-clause-absent
returns-clause-absent c = next_absent c.args.self.now c.args.key c.requires.next

pub returns-clause-plan : goal.returns-clause-plan
returns-clause-plan c = next_plan c.args.self.now (record { rising = c.push.new.self; tree = c.args.self.now.tree }) c.args.key c.args.after c.requires.plan c.requires.next refl c.in_ok-push.ensures.items

pub returns-clause-planned : goal.returns-clause-planned
returns-clause-planned c = next_planned c.args.self.now (record { rising = c.push.new.self; tree = c.args.self.now.tree }) c.args.key c.args.after c.requires.next refl c.in_ok-push.ensures.items
