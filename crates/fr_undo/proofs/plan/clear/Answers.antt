use Rattle.std.proofs.Common.{None, cond, ap, sym}
use Rattle.std.specs.BTreeMap as tree
use Rattle.fr_base.specs.Bytes.{bytes_cmp}
use Rattle.fr_undo.specs.Changes.{held_outside}
use Rattle.fr_undo.specs.Plan.{value_planned}
use Rattle.fr_undo.proofs.RangeLemmas.{none_between}
use Rattle.fr_undo.proofs.PlanLemmas.{planned_clear}
use Rattle.fr_undo.proofs.plan.clear.Goals as goal

pub returns-then-lt-clause-values : goal.returns-then-lt-clause-values
returns-then-lt-clause-values c =
    planned_clear (tree.get bytes_cmp c.args.contents.now) c.args.plan.now c.drop_between.new.plan c.args.cleared.items c.in_ok-ranges.ranges.items c.args.begin.now c.args.end.now
    c.in_ok-drop_between.ensures.planned c.in_ok-ranges.ensures

pub returns-clause-values : goal.returns-clause-values
returns-clause-values c = λ q.
    sym (ap (λ b. cond b None (value_planned c.args.plan.now (held_outside c.args.cleared.items (tree.get bytes_cmp c.args.contents.now)) q)) (none_between c.args.begin.now c.args.end.now q (cc (c.lt.ensures, c.if-lt.false))))
