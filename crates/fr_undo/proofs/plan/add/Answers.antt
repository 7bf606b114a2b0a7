use Rattle.std.proofs.Common.{◌≡◌, None, refl, sym, ap, ◌∙◌}
use Rattle.std.specs.Prelude.{is_some}
use Rattle.std.specs.Map.{lookup}
use Rattle.std.specs.BTreeMap.{is_at}
use Rattle.fr_base.specs.Bytes.{bytes_cmp}
use Rattle.fr_undo.specs.declared.plan.Plan.{Plan}
use Rattle.fr_undo.specs.Plan.{planned}
use Rattle.fr_undo.proofs.PlanLemmas.{added_new, added_before, in_tree, tree_plan, tree_put, on_ok}
use Rattle.fr_undo.proofs.plan.add.Goals as goal

pub returns-in_ok-copy_of-in-Greater-clause-planned : goal.returns-in_ok-copy_of-in-Greater-clause-planned
returns-in_ok-copy_of-in-Greater-clause-planned c =
    let k = c.in_ok-copy-in-Greater.ensures in
    let v = c.in_ok-copy_of-in-Greater.ensures in
    let none : planned c.args.plan.now c.args.key.now ≡ None = cc (c.push.ensures.absent, k) in
    on_ok c.push.result _ _ (λ put. added_new c.args.plan.now c.push.new.self c.args.key.now c.args.after.now none (λ q. cc (put q, k, v))) c.push.ensures.planned

pub returns-in-Equal-clause-planned : goal.returns-in-Equal-clause-planned
returns-in-Equal-clause-planned c = added_before c.args.plan.now c.args.plan.now c.args.key.now c.args.after.now (c.in-Equal.ensures.last refl) (λ q. refl)

pub returns-in_default-clause-plan : goal.returns-in_default-clause-plan
returns-in_default-clause-plan c = tree_plan _ c.in_ok-to_tree-in-Less.ensures.list

pub returns-in_default-clause-planned : goal.returns-in_default-clause-planned
returns-in_default-clause-planned c =
    let t = c.to_tree.new.self in
    let before = c.in_ok-to_tree-in-Less.ensures.planned in
    let plan' : Plan = record { rising = t.rising; tree = c.plan-in_default-3-1.given.0 } in
    let k = c.in_ok-copy-in-Less.ensures in
    let is = c.plan-in_default-1.given.1 in
    let there = rw (is, k) at c.in_ok-entry-in-Less.ensures.found in
    let ends = c.plan-in_default-3-1.given.1 (sym (rw is at c.in_ok-entry-in-Less.ensures.same_map)) in
    let same = rw is at c.in_ok-entry-in-Less.ensures.unchanged in
    added_before c.args.plan.now plan' c.args.key.now c.args.after.now (sym (ap is_some (before c.args.key.now)) ∙ there.0)
    (λ q. in_tree plan' c.in_ok-to_tree-in-Less.ensures.list q ∙ ap (lookup (is_at (bytes_cmp q))) (ap (λ m. m.entries) ends ∙ same) ∙ before q)

pub returns-in_ok-copy_of-in-Less-clause-plan : goal.returns-in_ok-copy_of-in-Less-clause-plan
returns-in_ok-copy_of-in-Less-clause-plan c = tree_plan _ c.in_ok-to_tree-in-Less.ensures.list

pub returns-in_ok-copy_of-in-Less-clause-planned : goal.returns-in_ok-copy_of-in-Less-clause-planned
returns-in_ok-copy_of-in-Less-clause-planned c =
    let t = c.to_tree.new.self in
    let before = c.in_ok-to_tree-in-Less.ensures.planned in
    let plan' : Plan = record { rising = t.rising; tree = c.plan-in-Vacant-2-1.given.0 } in
    let made = (rw c.in-Vacant.is at c.in_ok-entry-in-Less.ensures.update).0 c.insert.result.now in
    let ends = c.plan-in-Vacant-2-1.given.1 (sym (rw c.in-Vacant.is at c.in_ok-entry-in-Less.ensures.same_map)) in
    let k = c.in_ok-copy-in-Less.ensures in
    let v = c.in_ok-copy_of-in-Less.ensures in
    let w = c.insert.ensures.value in
    let none = rw (c.in-Vacant.is, k) at c.in_ok-entry-in-Less.ensures.found in
    added_new c.args.plan.now plan' c.args.key.now c.args.after.now (sym (before c.args.key.now) ∙ none)
    (tree_put c.args.plan.now plan' t.tree c.args.key.now c.args.after.now c.in_ok-to_tree-in-Less.ensures.list before (λ q. cc (made.0 q, ends, k, v, w)))
