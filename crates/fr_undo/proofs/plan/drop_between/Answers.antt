use Rattle.fr_undo.proofs.PlanLemmas.{tree_plan}
use Rattle.fr_undo.proofs.plan.drop_between.Goals as goal

pub returns-clause-plan : goal.returns-clause-plan
returns-clause-plan c = tree_plan _ c.loop-key.invariant.list
